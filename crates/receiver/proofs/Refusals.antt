-- A refused call of the receiver changes nothing, and by 14 it is refused where `Unclean` says. By the view of its calls: one case
-- of a hearing (`Refused`), and one of a hold or a resume, is a refusal, and it answers the receiver and the buffer as they
-- were. That an unclean frame is refused is computed.
-- Assumes nothing.
use Prim.Native.Nat.{ℕ}
use mathlib.Core.Path.{◌≡◌, refl, sym, ap, ◌∙◌, subst}
use mathlib.Core.Bool.{false≢true}
use mathlib.Core.List.{List, []}
use native.Mathlib.Omega.{arith}
use borrow.Author.Tests.{eq-eqb, ne_eqb, le-ltb}
use lib.ListN.{length}
use Rattle.frame.proofs.Choice.{pick_elim}
use Rattle.frame.proofs.Inverse.{written_clean}
use Rattle.frame.proofs.Laws.{read_information}
use Rattle.frame.specs.Choice.{pick}
use Rattle.frame.specs.Frames.{byte_of, part_from, information_of}
use Rattle.frame.specs.Reading.{clean_for}
use Rattle.frame.specs.Result as result
use Rattle.frame.specs.declared.Frame.{Frame}
use Rattle.receiver.proofs.Refused.{Taken, not_refused, number_of, refused_so}
use Rattle.receiver.proofs.View.{receiver_in, Ticks, rests, waits, retries, repeats, expires, tick_does, Pause, hold, resume, Pauses, denied, holds, resumes, pause_does, hear_does}
use Rattle.receiver.specs.Hear.{information_expected, information_open, hear_information, hear_numbered, hear_unless_held, hear_kind, hear_read, hear_of}
use Rattle.receiver.specs.Make.{make_of}
use Rattle.receiver.specs.Refusals.{Unchanged, Unclean, Refusals}
use Rattle.receiver.specs.Told as told
use Rattle.receiver.specs.declared.Connection.{Connection}
use Rattle.receiver.specs.declared.Phase.{Phase}
use Rattle.receiver.specs.declared.Phase.TheVariants.{Idle, Done, Open}
use Rattle.receiver.specs.declared.Receiver.{Receiver}
use Rattle.receiver.specs.declared.Settings.{Settings}

-- ---- making

abbrev Made : result.Result Receiver → Type 0
Made (result.accepted r) = Unit
Made (result.refused number) = ⊥

make_numbered : (timeout window capacity number : ℕ) → make_of timeout window capacity ≡ result.refused number → number ≡ 1
unfolding make_of
make_numbered timeout window capacity number =
    let P : result.Result Receiver → Type 0 = λ m. m ≡ result.refused number → number ≡ 1 in
    pick_elim P _ (λ fit. λ e. absurd (subst Made e tt)) (λ over. λ e. sym (ap result.refusal_of e))

-- ---- a tick

tick_taken : {s : Settings} {p : Phase} {t : told.Told} → Ticks s p t → Taken t.outcome
tick_taken (rests _) = tt
tick_taken (waits _) = tt
tick_taken (retries _ _ _) = tt
tick_taken (repeats _ _ _) = tt
tick_taken expires = tt

-- ---- a hold or a resume

pause_unchanged : {s : Settings} {k : Pause} {p : Phase} {t : told.Told} {number : ℕ} → Pauses s k p t
    → t.outcome ≡ told.refused number
    → (number ≡ 13) × Unchanged (receiver_in s p) [] (told.heard t [])
pause_unchanged denied e =
    (sym (ap number_of e), record { receiver = refl; lent = refl; emits = refl; frame = refl; bytes = refl })
pause_unchanged (holds _ _) e = absurd (not_refused tt e)
pause_unchanged (resumes _) e = absurd (not_refused tt e)

-- ---- a hearing

-- every unclean frame is refused by 14: no test before it holds it back
judged : (s : Settings) (p : Phase) (f : Frame) (buffer : List ℕ) → length f.bytes ≡ 8 → length buffer ≡ 1785 → Unclean f p
    → (hear_of (receiver_in s p) f buffer).told.outcome ≡ told.refused 14
unfolding hear_of hear_read hear_kind hear_unless_held hear_numbered hear_information information_open information_expected pick
judged s Idle f buffer eight whole u = absurd u
judged s (Done y) f buffer eight whole u = absurd u
judged s (Open x) f buffer eight whole (one, low, last, at, free, dirty) =
    rw (
      whole,
      read_information f x.length one low eight,
      eq-eqb f.kind 1 one,
      free,
      ne_eqb (byte_of f 0) 0 (omega arith),
      le-ltb x.frames (byte_of f 0) (omega arith),
      eq-eqb (byte_of f 0) x.expected (last ∙ sym at),
      eq-eqb (byte_of f 0) x.frames last,
      dirty,
    )

-- what is filled for the connection's length is clean for it
filled : (x : Connection) (number : ℕ) (m : List ℕ) → x.length ≡ length m
    → Unclean (information_of number (part_from number m)) (Open x)
    → ⊥
filled x number m same (_, _, _, _, _, dirty) =
    false≢true (sym dirty ∙ ap (clean_for (information_of number (part_from number m))) same ∙ written_clean number m)

pub refusals : Refusals
refusals =
    record {
      make = make_numbered;
      tick = λ r number e. not_refused (tick_taken (tick_does r)) e;
      hold = λ r number e. pause_unchanged (pause_does hold r) e;
      resume = λ r number e. pause_unchanged (pause_does resume r) e;
      hear = λ r f buffer number e. (refused_so (hear_does r f buffer) e).0;
      unclean = λ r f buffer e. (refused_so (hear_does r f buffer) e).1 refl;
      judged = λ r f buffer eight whole u. judged r.settings r.phase f buffer eight whole u;
      filled = λ r x number m buffer is same e.
          filled x number m same (rw is at ((refused_so (hear_does r _ buffer) e).1 refl));
    }
