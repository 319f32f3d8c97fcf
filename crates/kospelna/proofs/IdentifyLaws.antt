-- What is written flat of the identifier is read back, and the other way round.
-- Assumes nothing.
use Prim.Native.Nat.{ℕ}
use mathlib.Core.Path.{◌≡◌, refl}
use native.Mathlib.Omega.{arith}
use Rattle.frame.proofs.Choice.{pick_elim}
use Rattle.frame.specs.Result.{Result}
use Rattle.identifier.specs.Answer.{join_of, part_of}
use Rattle.identifier.specs.declared.Parts.{Parts}
use Rattle.kospelna.specs.Identify.{parts_in, parts_out, joining_out, joining_in, JoiningMade, no_parts, splitting_out, splitting_in, SplittingMade, IdentifierWhole}
use Rattle.kospelna.specs.Refusals.{Numbered}
use Rattle.kospelna.proofs.Refusals.{result_back, result_made, number_again, value_again}
use Rattle.kospelna.specs.declared.identify.FlatIdentifierParts.{FlatIdentifierParts}
use Rattle.kospelna.specs.declared.identify.FlatIdentifierJoining.{FlatIdentifierJoining}
use Rattle.kospelna.specs.declared.identify.FlatIdentifierSplitting.{FlatIdentifierSplitting}

-- parts: every value, both ways
pub parts_read : (x : Parts) → parts_in (parts_out x) ≡ x
parts_read x = refl

pub parts_written : (f : FlatIdentifierParts) → parts_out (parts_in f) ≡ f
parts_written f = refl

-- answers: every value comes back; a flat answer that writing makes comes back; and writing makes no others
pub joining_read : (r : Result ℕ) → Numbered r → joining_in (joining_out r) ≡ r
joining_read = result_back (λ (n : ℕ). n) (λ (n : ℕ). n) 0 (λ n. refl)

pub joining_made : (r : Result ℕ) → Numbered r → JoiningMade (joining_out r)
joining_made = result_made (λ (n : ℕ). n) 0 (λ (n : ℕ). Unit) (λ n. tt)

pub joining_written : (f : FlatIdentifierJoining) → JoiningMade f → joining_out (joining_in f) ≡ f
joining_written f made =
    rw (
      number_again (λ (n : ℕ). n) f.refusal f.identifier,
      value_again (λ (n : ℕ). n) (λ (n : ℕ). n) 0 (λ (n : ℕ). Unit) (λ n h. refl) f.refusal f.identifier made,
    )

pub splitting_read : (r : Result Parts) → Numbered r → splitting_in (splitting_out r) ≡ r
splitting_read = result_back parts_out parts_in no_parts parts_read

pub splitting_made : (r : Result Parts) → Numbered r → SplittingMade (splitting_out r)
splitting_made = result_made parts_out no_parts (λ (x : FlatIdentifierParts). Unit) (λ x. tt)

pub splitting_written : (f : FlatIdentifierSplitting) → SplittingMade f → splitting_out (splitting_in f) ≡ f
splitting_written f made =
    rw (
      number_again parts_in f.refusal f.parts,
      value_again parts_out parts_in no_parts (λ (x : FlatIdentifierParts). Unit) (λ x h. parts_written x) f.refusal f.parts made,
    )

-- no refusal is numbered 0
pub join_numbered : (x : Parts) → Numbered (join_of x)
unfolding join_of
join_numbered x = pick_elim Numbered _ (λ e. tt) (λ e. omega arith)

pub part_numbered : (n : ℕ) → Numbered (part_of n)
unfolding part_of
part_numbered n = pick_elim Numbered _ (λ e. tt) (λ e. omega arith)

pub identifier_whole : IdentifierWhole
identifier_whole =
    (λ x. joining_read (join_of x) (join_numbered x), λ n. splitting_read (part_of n) (part_numbered n))
