use borrow.Author.Rules.{rules}
use lib.ListN.{length}
use mathlib.Core.Path.{refl}
use Rattle.player.proofs.Turns.{turn_1, turn_2, turn_3_5, turn_4, turn_6_8, turn_7, lent_buffer, keeps_in, goes_to}
use Rattle.player.proofs.turn.Session.turn.Goals as goal

pub returns-in-1 : goal.returns-in-1
returns-in-1 c = goes_to (keeps_in refl refl refl refl refl) c.show.ensures (turn_1 c.tick_sender-a.result _ _ _ _ _ _ _ _ _ c.in-1.is (search rules) (c.tick_sender-a.ensures _ _))

pub returns-in-2 : goal.returns-in-2
returns-in-2 c = goes_to (keeps_in refl refl refl refl refl) c.show-in-2.ensures (turn_2 c.tick_receiver-a.result _ _ _ _ _ _ _ _ _ c.in-2.is (search rules) (c.tick_receiver-a.ensures _ _))

pub returns-in-3 : goal.returns-in-3
returns-in-3 c =
    let s = c.args.self.now in
    goes_to (keeps_in refl refl refl refl refl) c.show-in-3.ensures (turn_3_5 c.hear_forward-a.result _ _ _ _ _ _ _ _ (length s.forward.now) (length s.back.now) _ (lent_buffer _ _ _ _) c.in-3.is (search rules) (search rules) c.hear_forward-a.ensures)

pub returns-in-4 : goal.returns-in-4
returns-in-4 c = goes_to (keeps_in refl refl refl refl refl) c.show-in-4.ensures (turn_4 c.lose_forward.result _ _ _ _ _ _ _ _ c.in-4.is (c.lose_forward.ensures _ _ _))

pub returns-in-7 : goal.returns-in-7
returns-in-7 c = goes_to (keeps_in refl refl refl refl refl) c.show-in-7.ensures (turn_7 c.lose_back.result _ _ _ _ _ _ _ _ c.in-7.is (c.lose_back.ensures _ _ _))

pub returns-in_default : goal.returns-in_default
returns-in_default c =
    let s = c.args.self.now in
    goes_to (keeps_in refl refl refl refl refl) c.show-in_default.ensures (turn_6_8 c.hear_back-a.result _ _ _ _ _ _ _ _ (length s.forward.now) (length s.back.now) (search rules) (search rules) (search rules) (c.hear_back-a.ensures _))
