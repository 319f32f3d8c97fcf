-- The identifier's flat structs: what each stands for, in both directions. Document 01, Around the transport, Identifier;
-- Refusals, identifier.
use Rattle.std.specs.Prelude.{ℕ, ◌≡◌}
use Rattle.frame.specs.Result.{Result, refusal_of}
use Rattle.identifier.specs.Answer.{join_of, part_of}
use Rattle.identifier.specs.declared.Parts.{Parts}
use Rattle.kospelna.specs.Refusals.{value_of, result_from, Made}
use Rattle.kospelna.specs.declared.identify.FlatIdentifierParts.{FlatIdentifierParts}
use Rattle.kospelna.specs.declared.identify.FlatIdentifierJoining.{FlatIdentifierJoining}
use Rattle.kospelna.specs.declared.identify.FlatIdentifierSplitting.{FlatIdentifierSplitting}

-- parts, field by field
abbrev pub parts_in : FlatIdentifierParts → Parts
parts_in f = record { p = f.p; edp = f.edp; dp = f.dp; pf = f.pf; ps = f.ps; sa = f.sa }

abbrev pub parts_out : Parts → FlatIdentifierParts
parts_out x = record { p = x.p; edp = x.edp; dp = x.dp; pf = x.pf; ps = x.ps; sa = x.sa }

-- what joining answers: the refusal's number, 0 where there is none, and the identifier, 0 where refused
abbrev pub joining_out : Result ℕ → FlatIdentifierJoining
joining_out r = record { refusal = refusal_of r; identifier = value_of (λ (n : ℕ). n) 0 r }

abbrev pub joining_in : FlatIdentifierJoining → Result ℕ
joining_in f = result_from (λ (n : ℕ). n) f.refusal f.identifier

-- the flat answers that writing makes
abbrev pub JoiningMade : FlatIdentifierJoining → Type 0
JoiningMade f = Made (λ (n : ℕ). Unit) 0 f.refusal f.identifier

-- what splitting answers, in the same way
abbrev pub no_parts : FlatIdentifierParts
no_parts = record { p = 0; edp = 0; dp = 0; pf = 0; ps = 0; sa = 0 }

abbrev pub splitting_out : Result Parts → FlatIdentifierSplitting
splitting_out r = record { refusal = refusal_of r; parts = value_of parts_out no_parts r }

abbrev pub splitting_in : FlatIdentifierSplitting → Result Parts
splitting_in f = result_from parts_in f.refusal f.parts

abbrev pub SplittingMade : FlatIdentifierSplitting → Type 0
SplittingMade f = Made (λ (x : FlatIdentifierParts). Unit) no_parts f.refusal f.parts

-- Theorem: nothing is lost. A caller reads off each answer what document 01 has there.
abbrev pub IdentifierWhole : Type 0
IdentifierWhole =
    ((x : Parts) → joining_in (joining_out (join_of x)) ≡ join_of x)
    × ((n : ℕ) → splitting_in (splitting_out (part_of n)) ≡ part_of n)
