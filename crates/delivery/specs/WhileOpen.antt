-- Where no hold is accepted, demand 3 asks more of its caller than its promise needs: a begin may find a connection open, so
-- long as both lists are empty. The promise then holds all the same. An Opening sender goes on with LM_ACK 1 alone, so the
-- open connection stands at its first frame if it gets any of the new message; and its EndofACK names its own N and L, so
-- that it says sent only where these are the new message's. (Where they are not, it may refuse the last frame by 14.)
-- No hold is accepted, so that a connection's bound is that of `Unheld`.
-- With a hold it does not hold: of an open connection that expects frame 2, a hold emits LM_ACK 1, 1. The Opening sender takes
-- it, and after a resume the new message's frames from 2 on are delivered behind the old one's frame 1.
use Rattle.std.specs.Prelude.{true, List, [], ◌∷◌, ◌≡◌}
use Rattle.delivery.specs.Demand3.{Condition, Promised}
use Rattle.delivery.specs.Run.{Line, Past, next}
use Rattle.delivery.specs.Seen.{taken}
use Rattle.transport.specs.Step.{was_refused, step_of}
use Rattle.transport.specs.World.{Call, Event}
use Rattle.transport.specs.World.{begin, sender_tick, receiver_tick, hold, resume}
use Rattle.transport.specs.World.{hear_forward, repeat_forward, lose_forward, hear_back, repeat_back, lose_back}

-- what is asked of one call: as in demand 3, but of a begin only that the line is empty, and of a hold that it is refused
abbrev pub LineCondition : Past → Call → Event → Type 0
LineCondition p (begin m) e = taken e.sender ≡ true → (p.world.forward ≡ []) × (p.world.back ≡ [])
LineCondition p (sender_tick m) e = Condition p (sender_tick m) e
LineCondition p receiver_tick e = Condition p receiver_tick e
LineCondition p hold e = was_refused e.receiver ≡ true
LineCondition p resume e = Condition p resume e
LineCondition p (hear_forward b) e = Condition p (hear_forward b) e
LineCondition p (repeat_forward b) e = Condition p (repeat_forward b) e
LineCondition p lose_forward e = Condition p lose_forward e
LineCondition p hear_back e = Condition p hear_back e
LineCondition p repeat_back e = Condition p repeat_back e
LineCondition p lose_back e = Condition p lose_back e

-- along the whole list, on a line
abbrev pub LineConditions : Line → Past → List Call → Type 0
LineConditions line p [] = Unit
LineConditions line p (c ∷ calls) = LineCondition p c (line p.world c).event × LineConditions line (next line p c) calls

abbrev pub Demand3WhileOpen : Type 0
Demand3WhileOpen = Promised step_of (LineConditions step_of)
