-- Making both ends: a law for each path, by what making each of them answered; and what the made ends are.
-- Assumes nothing.
use Prim.Native.Nat.{ℕ}
use mathlib.Core.List.{List}
use mathlib.Core.Path.{◌≡◌, refl, subst}
use native.Mathlib.Omega.{arith}
use Rattle.std.specs.Prelude.{Ok, Err}
use Rattle.std.specs.Result.{IsErrAnd}
use Rattle.std.specs.declared.result.Result as answers
use Rattle.frame.specs.Result.{Result, accepted, refused, number_of, told_result}
use Rattle.frame.specs.declared.refusal.Refusal.{Refusal}
use Rattle.line.specs.Ring.{frames_from, frames_in, empty_of}
use Rattle.line.specs.declared.Ring.{Ring}
use Rattle.receiver.specs.Make as receiver-making
use Rattle.receiver.specs.declared.Receiver.{Receiver}
use Rattle.sender.specs.Make as sender-making
use Rattle.sender.specs.declared.Sender.{Sender}
use Rattle.transport.specs.Answer.{world_of}
use Rattle.transport.specs.Make.{joined, make_of}
use Rattle.transport.specs.World.{start_of}
use Rattle.transport.specs.declared.Ends.{Ends}

-- a `?` hands a refusal on
pub handed_on : {A : Type 0} (r : answers.Result A Refusal) (refusal : Refusal) {x : Result A} → IsErrAnd r (λ y. y ≡ refusal)
    → refused (number_of refusal) ≡ x → told_result r ≡ x
handed_on (Ok a) refusal h e = absurd h
handed_on (Err y) refusal h e = rw h e

module _ (gap timeout limit patience window capacity : ℕ) where
  pub no_sender_lem : (number : ℕ) → refused number ≡ sender-making.make_of gap timeout limit
      → refused number ≡ make_of gap timeout limit patience window capacity
  unfolding joined make_of
  no_sender_lem number e = rw (← e) refl

  pub no_receiver_lem : (s : Sender) (number : ℕ) → accepted s ≡ sender-making.make_of gap timeout limit
      → refused number ≡ receiver-making.make_of patience window capacity
      → refused number ≡ make_of gap timeout limit patience window capacity
  unfolding joined make_of
  no_receiver_lem s number e d = rw (← e, ← d) refl

  pub both_made : (s : Sender) (r : Receiver) (empty : Ring) → accepted s ≡ sender-making.make_of gap timeout limit
      → accepted r ≡ receiver-making.make_of patience window capacity → empty ≡ empty_of
      → accepted (record { sender = s; receiver = r; forward = empty; back = empty }) ≡ make_of gap timeout limit patience window capacity
  unfolding joined make_of
  both_made s r empty e d h = rw (← e, ← d, h) refl

-- what making both ends accepts: each end as its own making answers it, at an empty line
pub record Made (gap timeout limit patience window capacity : ℕ) (ends : Ends) : Type 0 where
  pub sender : sender-making.make_of gap timeout limit ≡ accepted ends.sender
  pub receiver : receiver-making.make_of patience window capacity ≡ accepted ends.receiver
  pub empty : (forward back buffer : List ℕ) → world_of ends forward back buffer ≡ start_of ends.sender ends.receiver buffer

made_of : (gap timeout limit patience window capacity : ℕ) (x : Result Sender) (y : Result Receiver) (ends : Ends)
    → sender-making.make_of gap timeout limit ≡ x
    → receiver-making.make_of patience window capacity ≡ y
    → joined x y ≡ accepted ends
    → Made gap timeout limit patience window capacity ends
unfolding joined world_of frames_in frames_from
made_of gap timeout limit patience window capacity (accepted s) (accepted r) ends e d h =
    let same : record { sender = s; receiver = r; forward = empty_of; back = empty_of } ≡ ends = cc in
    subst (Made gap timeout limit patience window capacity) same (record { sender = e; receiver = d; empty = λ forward back buffer. refl })
made_of gap timeout limit patience window capacity (accepted s) (refused n) ends e d h =
    let z : ◌≡◌ {A = ℕ} 0 1 = cc in absurd (omega arith)
made_of gap timeout limit patience window capacity (refused n) y ends e d h =
    let z : ◌≡◌ {A = ℕ} 0 1 = cc in absurd (omega arith)

pub make_answers : (gap timeout limit patience window capacity : ℕ) (ends : Ends)
    → make_of gap timeout limit patience window capacity ≡ accepted ends
    → Made gap timeout limit patience window capacity ends
unfolding make_of
make_answers gap timeout limit patience window capacity ends =
    made_of gap timeout limit patience window capacity (sender-making.make_of gap timeout limit) (receiver-making.make_of patience window capacity) ends refl refl
