-- The calls of a talker that was made, as data: what is said of every call is said once.
use Rattle.std.specs.Prelude.{List, ℕ}
use Rattle.version.specs.Talk.{connect_of, stop_of, greet_of, functions_heard_of, hear_of, tick_of}
use Rattle.version.specs.Told.{Told}
use Rattle.version.specs.declared.Talker.{Talker}

pub data Call : Type 0 where
  connect : Call
  tick : Call
  hear : (bytes : List ℕ) → Call
  stop : Call
  greet : Call
  functions_heard : Call

-- what a call answers
abbrev pub answer_of : Talker → Call → Told
answer_of t connect = connect_of t
answer_of t tick = tick_of t
answer_of t (hear bytes) = hear_of t bytes
answer_of t stop = stop_of t
answer_of t greet = greet_of t
answer_of t functions_heard = functions_heard_of t
