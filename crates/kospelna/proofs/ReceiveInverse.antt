-- The receiver's translations undo each other, so a run of calls over the face is a run of the definitions, and nothing
-- of an answer is left open.
-- Assumes nothing.
use Prim.Native.Nat.{ℕ, zero, suc, ◌≤◌}
use mathlib.Core.Path.{◌≡◌, refl, sym, ap, ◌∙◌}
use native.Mathlib.Omega.{arith}
use Rattle.frame.proofs.Choice.{pick_elim}
use Rattle.frame.specs.Result.{Result}
use Rattle.frame.specs.Choice.{pick}
use Rattle.kospelna.specs.Receive.{misses_from, connection_from, receiver_from, flat_misses, flat_of, flat_phase, flat_receiver, Written, idle, done, opened, flat_outcome, flat_answer, no_receiver, flat_made, outcome_from, answer_from, made_from, ReceiverWhole, phase_from}
use Rattle.kospelna.specs.Refusals.{Numbered}
use Rattle.kospelna.specs.declared.receive.FlatReceiver.{FlatReceiver}
use Rattle.receiver.specs.Make.{make_of}
use Rattle.receiver.specs.Told.{Outcome, quiet, refused, delivered, failed, short, Told}
use Rattle.receiver.specs.declared.Connection.{Connection}
use Rattle.receiver.specs.declared.Misses.{Misses}
use Rattle.receiver.specs.declared.Misses.TheVariants.{NoneAfterAck, OneAfterAck, TwoAfterAck, NoneAfterFrame, OneAfterFrame}
use Rattle.receiver.specs.declared.Phase.{Phase}
use Rattle.receiver.specs.declared.Phase.TheVariants.{Idle, Done, Open}
use Rattle.receiver.specs.declared.Receiver.{Receiver}
use Rattle.receiver.specs.declared.Settings.{Settings}
use Rattle.kospelna.proofs.Numbers.{other, test}
use Rattle.kospelna.proofs.Refusals.{result_back}
use borrow.Author.Tests.{ne_eqb}

-- what a phase's number stands for: it, or Idle
module _ (r : FlatReceiver) where
  reads_done : r.phase ≡ 1 → Done (record { frames = r.frames; length = r.length }) ≡ phase_from r
  unfolding pick
  reads_done e = cc (test 1 e)

  reads_open : r.phase ≡ 2 → (x : Connection) → x ≡ connection_from r → Open x ≡ phase_from r
  unfolding pick
  reads_open e x k = cc (test 1 e, test 2 e)

  -- every other number is Idle
  reads_idle : (r.phase ≡ 1 → ⊥) → (r.phase ≡ 2 → ⊥) → Idle ≡ phase_from r
  unfolding pick
  reads_idle n1 n2 = cc (ne_eqb _ _ n1, ne_eqb _ _ n2)

-- the numbers of misses, there and back
misses_back : (m : Misses) → misses_from (flat_misses m) ≡ m
unfolding pick
misses_back NoneAfterAck = refl
misses_back OneAfterAck = refl
misses_back TwoAfterAck = refl
misses_back NoneAfterFrame = refl
misses_back OneAfterFrame = refl

misses_known : (m : Misses) → flat_misses m ≤ 4
misses_known NoneAfterAck = omega arith
misses_known OneAfterAck = omega arith
misses_known TwoAfterAck = omega arith
misses_known NoneAfterFrame = omega arith
misses_known OneAfterFrame = omega arith

number_back : (n : ℕ) → n ≤ 4 → flat_misses (misses_from n) ≡ n
unfolding pick
number_back zero h = refl
number_back (suc zero) h = refl
number_back (suc (suc zero)) h = refl
number_back (suc (suc (suc zero))) h = refl
number_back (suc (suc (suc (suc zero)))) h = refl
number_back (suc (suc (suc (suc (suc n))))) h = absurd (omega arith)

phase_back : (s : Settings) (p : Phase) → receiver_from (flat_phase s p) ≡ record { settings = s; phase = p }
unfolding pick
phase_back s Idle = refl
phase_back s (Done x) = refl
phase_back s (Open x) = rw (misses_back x.misses)

-- reading what was written gives the same receiver back
pub receiver_back : (r : Receiver) → receiver_from (flat_receiver r) ≡ r
receiver_back r = phase_back r.settings r.phase

phase_written : (s : Settings) (p : Phase) → Written (flat_phase s p)
unfolding pick
phase_written s Idle = idle refl (omega arith) refl
phase_written s (Done x) = done refl (omega arith) refl
phase_written s (Open x) = opened refl (misses_known x.misses)

-- what is written is one of the flat receivers that writing makes
pub receiver_written : (r : Receiver) → Written (flat_receiver r)
receiver_written r = phase_written r.settings r.phase

-- a flat receiver is made of its parts
rebuilt : (r : FlatReceiver) {phase : ℕ} {x : Connection} → phase ≡ r.phase → r.misses ≤ 4 → x ≡ connection_from r
    → flat_of (receiver_from r).settings phase x ≡ r
rebuilt r p few k = rw (p, k, number_back r.misses few)

-- writing what was read gives each of those back
pub flat_back : (r : FlatReceiver) → Written r → flat_receiver (receiver_from r) ≡ r
flat_back r (idle p few k) = ap (flat_phase _) (sym (reads_idle r (other p) (other p))) ∙ rebuilt r (sym p) few (sym k)
flat_back r (done p few k) = ap (flat_phase _) (sym (reads_done r p)) ∙ rebuilt r (sym p) few (sym k)
flat_back r (opened p few) = ap (flat_phase _) (sym (reads_open r p _ refl)) ∙ rebuilt r (sym p) few refl

-- ---- answers

outcome_back : (o : Outcome) → outcome_from (flat_outcome o) ≡ o
unfolding outcome_from pick
outcome_back quiet = refl
outcome_back (refused number) = refl
outcome_back (delivered length) = refl
outcome_back (failed cause) = refl
outcome_back short = refl

-- a caller reads the definition's answer off the flat one, whole
pub answer_back : (t : Told) → answer_from (flat_answer t) ≡ t
unfolding answer_from
answer_back t =
    ap (λ (r : Receiver). record { next = r; emits = t.emits; frame = t.frame; outcome = outcome_from (flat_outcome t.outcome); bytes = t.bytes })
    (receiver_back t.next)
    ∙ ap (λ (o : Outcome). record { next = t.next; emits = t.emits; frame = t.frame; outcome = o; bytes = t.bytes })
    (outcome_back t.outcome)

pub made_back : (m : Result Receiver) → Numbered m → made_from (flat_made m) ≡ m
made_back m numbered = result_back flat_receiver receiver_from no_receiver receiver_back m numbered

-- no refusal is numbered 0
pub made_numbered : (timeout window capacity : ℕ) → Numbered (make_of timeout window capacity)
unfolding make_of
made_numbered timeout window capacity = pick_elim Numbered _ (λ e. tt) (λ e. omega arith)

pub receiver_whole : ReceiverWhole
receiver_whole = (
  receiver_back,
  answer_back,
  λ timeout window capacity. made_back (make_of timeout window capacity) (made_numbered timeout window capacity),
)
