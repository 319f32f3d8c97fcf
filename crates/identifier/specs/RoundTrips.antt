-- Joining and parting undo each other, and the two named identifiers are those of their parts. `proofs/Inverse.antt` proves
-- it.
use Rattle.std.specs.Prelude.{ℕ, ◌≡◌}
use Rattle.frame.specs.Result.{accepted}
use Rattle.identifier.specs.Answer.{join_of, part_of}
use Rattle.identifier.specs.Named.{charger_version_parts, vehicle_version_parts, charger_version, vehicle_version}
use Rattle.identifier.specs.declared.Parts.{Parts}

pub record RoundTrips : Type 0 where
  -- what was joined is parted into the parts that it was joined from
  pub parted_joined : (x : Parts) (n : ℕ) → join_of x ≡ accepted n → part_of n ≡ accepted x
  -- what was parted is joined to the identifier that it came from
  pub joined_parted : (n : ℕ) (x : Parts) → part_of n ≡ accepted x → join_of x ≡ accepted n
  -- 001, tables 4 and 5
  pub charger_version_lem : join_of charger_version_parts ≡ accepted charger_version
  pub vehicle_version_lem : join_of vehicle_version_parts ≡ accepted vehicle_version
