-- The sender's translations undo each other, so a run of calls over the face is a run of the definitions, and nothing of
-- an answer is left open.
-- Assumes nothing.
use Prim.Native.Nat.{ℕ}
use mathlib.Core.Path.{◌≡◌, refl, sym, ap, ◌∙◌}
use native.Mathlib.Omega.{arith}
use Rattle.frame.proofs.Choice.{pick_elim}
use Rattle.frame.specs.Result.{Result}
use Rattle.frame.specs.Choice.{pick}
use Rattle.kospelna.specs.Send.{transfer_from, sender_from, flat_of, flat_phase, flat_sender, window_from, Written, idle, opening, sending, waiting, short, flat_outcome, flat_answer, no_sender, flat_made, outcome_from, answer_from, made_from, SenderWhole, opening_from, sending_from, waiting_from, short_from, phase_from}
use Rattle.kospelna.specs.Refusals.{Numbered}
use Rattle.kospelna.specs.declared.send.FlatSender.{FlatSender}
use Rattle.sender.specs.Make.{make_of}
use Rattle.sender.specs.Told.{Outcome, quiet, refused, sent, failed, Told}
use Rattle.kospelna.specs.declared.send.Window.{Window}
use Rattle.sender.specs.declared.Transfer.{Transfer}
use Rattle.sender.specs.declared.Phase.{Phase}
use Rattle.sender.specs.declared.Phase.TheVariants.{Idle, Opening, Sending, Waiting, Short}
use Rattle.sender.specs.declared.Sender.{Sender}
use Rattle.sender.specs.declared.Settings.{Settings}
use Rattle.kospelna.proofs.Numbers.{other, test}
use Rattle.kospelna.proofs.Refusals.{result_back}
use borrow.Author.Tests.{ne_eqb}

-- what a phase's number stands for: it, or Idle
module _ (s : FlatSender) (t : Transfer) (known : t ≡ transfer_from s) where
  reads_opening : s.phase ≡ 1 → opening_from s t ≡ phase_from s
  unfolding pick
  reads_opening e = cc (test 1 e)

  reads_sending : s.phase ≡ 2 → sending_from s t ≡ phase_from s
  unfolding pick
  reads_sending e = cc (test 1 e, test 2 e)

  reads_waiting : s.phase ≡ 3 → waiting_from s t ≡ phase_from s
  unfolding pick
  reads_waiting e = cc (test 1 e, test 2 e, test 3 e)

  reads_short : s.phase ≡ 4 → short_from s t ≡ phase_from s
  unfolding pick
  reads_short e = cc (test 1 e, test 2 e, test 3 e, test 4 e)

-- every other number is Idle
reads_idle : (s : FlatSender) → (s.phase ≡ 1 → ⊥) → (s.phase ≡ 2 → ⊥) → (s.phase ≡ 3 → ⊥) → (s.phase ≡ 4 → ⊥)
    → Idle ≡ phase_from s
unfolding pick
reads_idle s n1 n2 n3 n4 = cc (ne_eqb _ _ n1, ne_eqb _ _ n2, ne_eqb _ _ n3, ne_eqb _ _ n4)

phase_back : (r : Settings) (p : Phase) → sender_from (flat_phase r p) ≡ record { settings = r; phase = p }
unfolding pick
phase_back r Idle = refl
phase_back r (Opening x) = refl
phase_back r (Sending x) = refl
phase_back r (Waiting x) = refl
phase_back r (Short x) = refl

-- reading what was written gives the same sender back
pub sender_back : (s : Sender) → sender_from (flat_sender s) ≡ s
sender_back s = phase_back s.settings s.phase

phase_written : (r : Settings) (p : Phase) → Written (flat_phase r p)
phase_written r Idle = idle refl refl refl refl refl
phase_written r (Opening x) = opening refl refl
phase_written r (Sending x) = sending refl refl
phase_written r (Waiting x) = waiting refl refl refl
phase_written r (Short x) = short refl refl refl

-- what is written is one of the flat senders that writing makes
pub sender_written : (s : Sender) → Written (flat_sender s)
sender_written s = phase_written s.settings s.phase

-- a flat sender is made of its parts
rebuilt : (s : FlatSender) {phase wait misses : ℕ} {t : Transfer} {w : Window} → phase ≡ s.phase → t ≡ transfer_from s
    → w ≡ window_from s → wait ≡ s.wait → misses ≡ s.misses
    → flat_of (sender_from s).settings phase t w wait misses ≡ s
rebuilt s p t w n m = rw (p, t, w, n, m)

-- writing what was read gives each of those back
pub flat_back : (s : FlatSender) → Written s → flat_sender (sender_from s) ≡ s
flat_back s (idle p t w n m) =
    ap (flat_phase _) (sym (reads_idle s (other p) (other p) (other p) (other p)))
    ∙ rebuilt s (sym p) (sym t) (sym w) (sym n) (sym m)
flat_back s (opening p w) = ap (flat_phase _) (sym (reads_opening s _ refl p)) ∙ rebuilt s (sym p) refl (sym w) refl refl
flat_back s (sending p n) = ap (flat_phase _) (sym (reads_sending s _ refl p)) ∙ rebuilt s (sym p) refl refl (sym n) refl
flat_back s (waiting p n k) =
    ap (flat_phase _) (sym (reads_waiting s _ refl p)) ∙ rebuilt s (sym p) refl (cc) refl refl
flat_back s (short p w m) = ap (flat_phase _) (sym (reads_short s _ refl p)) ∙ rebuilt s (sym p) refl (sym w) refl (sym m)

-- ---- answers

outcome_back : (o : Outcome) → outcome_from (flat_outcome o) ≡ o
unfolding outcome_from pick
outcome_back quiet = refl
outcome_back (refused number) = refl
outcome_back (sent ticks frames) = refl
outcome_back (failed cause ticks frames) = refl

-- a caller reads the definition's answer off the flat one, whole
pub answer_back : (t : Told) → answer_from (flat_answer t) ≡ t
unfolding answer_from
answer_back t =
    ap (λ (s : Sender). record { next = s; emits = t.emits; frame = t.frame; outcome = outcome_from (flat_outcome t.outcome) })
    (sender_back t.next)
    ∙ ap (λ (o : Outcome). record { next = t.next; emits = t.emits; frame = t.frame; outcome = o }) (outcome_back t.outcome)

pub made_back : (m : Result Sender) → Numbered m → made_from (flat_made m) ≡ m
made_back m numbered = result_back flat_sender sender_from no_sender sender_back m numbered

-- no refusal is numbered 0
pub made_numbered : (gap timeout limit : ℕ) → Numbered (make_of gap timeout limit)
unfolding make_of
made_numbered gap timeout limit = pick_elim Numbered _ (λ e. tt) (λ e. omega arith)

pub sender_whole : SenderWhole
sender_whole = (
  sender_back,
  answer_back,
  λ gap timeout limit. made_back (make_of gap timeout limit) (made_numbered gap timeout limit),
)
