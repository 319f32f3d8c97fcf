-- Document 02, E1: three of its conditions can be left out whole, and its promise still holds.
--   A frame may be repeated, so long as the line is empty at every tick. What is heard again is ignored, or draws its answer
--   again, and the other end takes that answer as it did before: no tick has passed between.
--   The sender may tick again before the receiver does: the receiver's wait is then the shorter.
--   The sender's T may be anything: it is neither Opening nor Waiting at any of its ticks.
use Rattle.std.specs.Prelude.{ℕ, ◌+◌, true, List, ◌≡◌}
use Rattle.delivery.specs.Clean.{Empty, CleanCall, Fits, CleanPromise, Cleanly}
use Rattle.delivery.specs.Run.{Past}
use Rattle.delivery.specs.Seen.{taken}
use Rattle.transport.specs.Step.{step_of}
use Rattle.transport.specs.World.{Call, Event}
use Rattle.transport.specs.World.{begin, sender_tick, receiver_tick, hold, resume}
use Rattle.transport.specs.World.{hear_forward, repeat_forward, lose_forward, hear_back, repeat_back, lose_back}

-- what is asked of a call: as of a clean one, but of a repeat nothing, and of the sender's tick only that the line is empty
abbrev pub LenientCall : Past → Call → Event → Type 0
LenientCall p (begin m) e = CleanCall p (begin m) e
LenientCall p (sender_tick m) e = taken e.sender ≡ true → Empty p.world
LenientCall p receiver_tick e = CleanCall p receiver_tick e
LenientCall p hold e = CleanCall p hold e
LenientCall p resume e = CleanCall p resume e
LenientCall p (hear_forward b) e = CleanCall p (hear_forward b) e
LenientCall p (repeat_forward b) e = Unit
LenientCall p lose_forward e = CleanCall p lose_forward e
LenientCall p hear_back e = CleanCall p hear_back e
LenientCall p repeat_back e = Unit
LenientCall p lose_back e = CleanCall p lose_back e

-- what is asked of the settings and the message: as in `Fits`, whatever the sender's T is
abbrev pub LenientFits : ℕ → ℕ → ℕ → ℕ → ℕ → List ℕ → Type 0
LenientFits gap timeout limit patience capacity message = Fits gap (gap + 1) limit patience capacity message

abbrev pub LenientClean : Type 0
LenientClean = Cleanly step_of LenientFits LenientCall CleanPromise
