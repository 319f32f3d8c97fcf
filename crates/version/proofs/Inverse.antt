-- What is told of an answer leaves nothing of it open; writing and reading a message undo each
-- other. A version below 2^24 is its three bytes, and a list of bytes computes.
-- Assumes nothing.
use Prim.Native.Nat.{ℕ, zero, suc, ◌<◌, ◌≤◌}
use mathlib.Core.Path.{◌≡◌, refl, sym, ap, ◌∙◌}
use mathlib.Core.Bool.{Bool, true, false, ◌&&◌, and-eq-true_iff}
use mathlib.Core.List.{List, [], ◌∷◌}
use native.Mathlib.Omega.{arith}
use borrow.Author.Tests.{leb-true, eqb-true}
use lib.Dec.{eqb, leb}
use lib.ListN.{length, get_or, take}
use Rattle.frame.proofs.Choice.{pick_accepted}
use Rattle.frame.proofs.Told.{refusal_at, number_injective}
use Rattle.frame.specs.Choice.{pick}
use Rattle.frame.specs.Result.{accepted}
use Rattle.std.specs.Prelude.{Some, None, is_some}
use Rattle.std.specs.declared.option.Option.{Option}
use Rattle.version.specs.List.{version_of, major_of, minor_of, temporary_of}
use Rattle.version.specs.Message.{verdict_of, named, write_of, message_of, read_of}
use Rattle.version.specs.Told as says
use Rattle.version.specs.Told.{Told, told_outcome, bytes_or_zeros, told}
use Rattle.version.specs.declared.Answer.{Answer}
use Rattle.version.specs.declared.Message.{Message}
use Rattle.version.specs.declared.Outcome as outcome-enum
use Rattle.version.specs.declared.Outcome.TheVariants as outcome-variants
use Rattle.version.specs.declared.Verdict.{Verdict}
use Rattle.version.specs.declared.Verdict.TheVariants.{Continue, Success, Failure}

-- ---- answers

abbrev pub untold_outcome : says.Outcome → outcome-enum.Outcome
untold_outcome says.quiet = outcome-variants.Quiet
untold_outcome (says.refused number) = outcome-variants.Refused (refusal_at number)
untold_outcome (says.agreed version) = outcome-variants.Agreed version
untold_outcome says.failed = outcome-variants.Failed
untold_outcome says.left = outcome-variants.Left

outcome_undone : (o : outcome-enum.Outcome) → untold_outcome (told_outcome o) ≡ o
outcome_undone outcome-variants.Quiet = refl
outcome_undone (outcome-variants.Refused refusal) = ap outcome-variants.Refused (number_injective refusal)
outcome_undone (outcome-variants.Agreed version) = refl
outcome_undone outcome-variants.Failed = refl
outcome_undone outcome-variants.Left = refl

abbrev pub untold_message : Bool → List ℕ → Option (List ℕ)
untold_message true bytes = Some bytes
untold_message false bytes = None

message_undone : (m : Option (List ℕ)) → untold_message (is_some m) (bytes_or_zeros m) ≡ m
message_undone (Some bytes) = refl
message_undone None = refl

abbrev pub untold : Told → Answer
untold t =
    record {
      next = t.next;
      message = untold_message t.emits t.bytes;
      outcome = untold_outcome t.outcome;
    }

pub told_undone : (a : Answer) → untold (told a) ≡ a
told_undone a =
    ap (λ (m : Option (List ℕ)). record { next = a.next; message = m; outcome = untold_outcome (told_outcome a.outcome) })
    (message_undone a.message)
    ∙ ap (λ (o : outcome-enum.Outcome). record { next = a.next; message = a.message; outcome = o })
    (outcome_undone a.outcome)

-- ---- a version and its three bytes

version_whole : (v : ℕ) → v < 16777216 → version_of (major_of v) (minor_of v) (temporary_of v) ≡ v
version_whole v h = omega arith

module _ (a b c : ℕ) (x : a < 256) (y : b < 256) (z : c < 256) where
  major_back : major_of (version_of a b c) ≡ a
  major_back = omega arith

  minor_back : minor_of (version_of a b c) ≡ b
  minor_back = omega arith

  temporary_back : temporary_of (version_of a b c) ≡ c
  temporary_back = omega arith

-- ---- messages

-- the message that is read of one that was written: the same, but that a failure names FF FF FF
abbrev pub as_read : Message → Message
as_read m = record { verdict = m.verdict; version = named m.verdict m.version; control = m.control }

back : (verdict : Verdict) (version control : ℕ) → version < 16777216
    → read_of (write_of (record { verdict = verdict; version = version; control = control }))
    ≡ accepted (as_read (record { verdict = verdict; version = version; control = control }))
unfolding read_of write_of verdict_of pick
back Continue version control h =
    ap (λ (v : ℕ). accepted (record { verdict = Continue; version = v; control = control })) (version_whole version h)
back Success version control h =
    ap (λ (v : ℕ). accepted (record { verdict = Success; version = v; control = control })) (version_whole version h)
back Failure version control h = refl

pub read_written : (m : Message) → m.version < 16777216 → read_of (write_of m) ≡ accepted (as_read m)
read_written m h = back m.verdict m.version m.control h

same_named : (verdict : Verdict) (version control : ℕ) → (verdict ≡ Failure → ⊥)
    → accepted (as_read (record { verdict = verdict; version = version; control = control }))
    ≡ accepted (record { verdict = verdict; version = version; control = control })
same_named Continue version control other = refl
same_named Success version control other = refl
same_named Failure version control other = absurd (other refl)

-- a message that is no failure comes back whole
pub read_same : (m : Message) → m.version < 16777216 → (m.verdict ≡ Failure → ⊥)
    → read_of (write_of m) ≡ accepted m
read_same m h other = read_written m h ∙ same_named m.verdict m.version m.control other

-- The first six bytes of a message that is read, and is no failure, are those that it writes.
module _ (b0 b2 b3 b4 b5 : ℕ) (rest : List ℕ) (x : b2 < 256) (y : b3 < 256) (z : b4 < 256) (m : Message) where
  by_result : (b1 : ℕ) → b1 ≤ 2 → (verdict_of b1 ≡ Failure → ⊥) → b0 ≡ 0
      → take 6 (write_of (record { verdict = verdict_of b1; version = version_of b2 b3 b4; control = b5 }))
      ≡ b0 ∷ b1 ∷ b2 ∷ b3 ∷ b4 ∷ b5 ∷ []
  unfolding write_of verdict_of pick
  by_result zero l other type = cc (major_back b2 b3 b4 x y z, minor_back b2 b3 b4 x y z, temporary_back b2 b3 b4 x y z)
  by_result (suc zero) l other type =
      cc (major_back b2 b3 b4 x y z, minor_back b2 b3 b4 x y z, temporary_back b2 b3 b4 x y z)
  by_result (suc (suc zero)) l other type = absurd (other refl)
  by_result (suc (suc (suc n))) l other type = absurd (omega arith)

  restored : (b1 : ℕ) → read_of (b0 ∷ b1 ∷ b2 ∷ b3 ∷ b4 ∷ b5 ∷ rest) ≡ accepted m
      → (m.verdict ≡ Failure → ⊥)
      → take 6 (write_of m) ≡ b0 ∷ b1 ∷ b2 ∷ b3 ∷ b4 ∷ b5 ∷ []
  unfolding read_of
  restored b1 h other =
      let bytes : List ℕ = b0 ∷ b1 ∷ b2 ∷ b3 ∷ b4 ∷ b5 ∷ rest in
      let both = pick_accepted (eqb b0 0 && leb b1 2) (accepted (message_of bytes)) 10 h in
      let tests = (and-eq-true_iff (eqb b0 0) (leb b1 2)).0 both.0 in
      let same : message_of bytes ≡ m = cc both.1 in
      let whole : verdict_of b1 ≡ Failure → ⊥ =
      λ f. other (sym (ap (λ (k : Message). k.verdict) same) ∙ f) in
      ap (λ (k : Message). take 6 (write_of k)) (sym same)
      ∙ by_result b1 (leb-true b1 2 tests.1) whole (eqb-true b0 0 tests.0)

pub written_read : (b : List ℕ) → length b ≡ 8 → ((n : ℕ) → get_or b n 0 < 256) → (m : Message)
    → read_of b ≡ accepted m
    → (m.verdict ≡ Failure → ⊥) → take 6 (write_of m) ≡ take 6 b
written_read [] eight bound m h other = absurd (omega arith)
written_read (b0 ∷ []) eight bound m h other = absurd (omega arith)
written_read (b0 ∷ b1 ∷ []) eight bound m h other = absurd (omega arith)
written_read (b0 ∷ b1 ∷ b2 ∷ []) eight bound m h other = absurd (omega arith)
written_read (b0 ∷ b1 ∷ b2 ∷ b3 ∷ []) eight bound m h other = absurd (omega arith)
written_read (b0 ∷ b1 ∷ b2 ∷ b3 ∷ b4 ∷ []) eight bound m h other = absurd (omega arith)
written_read (b0 ∷ b1 ∷ b2 ∷ b3 ∷ b4 ∷ b5 ∷ rest) eight bound m h other =
    restored b0 b2 b3 b4 b5 rest (bound 2) (bound 3) (bound 4) m b1 h other
