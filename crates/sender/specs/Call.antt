-- The calls of a sender that was made: what each is lent or hears, and what it answers.
use Rattle.std.specs.Prelude.{ℕ, List}
use Rattle.frame.specs.declared.Frame.{Frame}
use Rattle.sender.specs.Begin.{begin_of, post_of}
use Rattle.sender.specs.Hear.{hear_of}
use Rattle.sender.specs.Tick.{tick_of}
use Rattle.sender.specs.Told.{Told}
use Rattle.sender.specs.declared.Sender.{Sender}

pub data Call : Type 0 where
  begin : (message : List ℕ) → Call
  tick : (message : List ℕ) → Call
  hear : (f : Frame) → Call
  post : (message : List ℕ) → Call

abbrev pub answer_of : Sender → Call → Told
answer_of s (begin message) = begin_of s message
answer_of s (tick message) = tick_of s message
answer_of s (hear f) = hear_of s f
answer_of s (post message) = post_of s message
