-- Joining and parting undo each other. Parts inside their widths are the digits of their number,
-- and a number below 2 to the 29 is made of its digits.
-- Assumes nothing.
use Prim.Native.Nat.{ℕ, ◌+◌, ◌*◌, ◌/◌, ◌%◌}
use mathlib.Core.Path.{◌≡◌, refl, sym, ap, ◌∙◌, subst}
use mathlib.Core.Bool.{true}
use native.Mathlib.Omega.{arith}
use Rattle.frame.proofs.Choice.{pick_accepted}
use Rattle.frame.specs.Choice.{pick}
use Rattle.frame.specs.Result.{accepted}
use Rattle.identifier.specs.Identifier.{number_of, parts_of, fits_of, Within}
use Rattle.identifier.specs.Answer.{join_of, part_of}
use Rattle.identifier.specs.Named.{charger_version_parts, vehicle_version_parts, charger_version, vehicle_version}
use Rattle.identifier.specs.RoundTrips.{RoundTrips}
use Rattle.identifier.specs.declared.Parts.{Parts}
use Rattle.identifier.proofs.Laws.{within, fits_number, join_accepted, part_accepted}

-- The parts of the number of parts inside their widths.
parts_number : (x : Parts) → Within x → x ≡ parts_of (number_of x)
unfolding number_of parts_of
parts_number x w =
    let n : ℕ = number_of x in
    let p : n / 67108864 ≡ x.p = omega arith in
    let edp : n / 33554432 % 2 ≡ x.edp = omega arith in
    let dp : n / 16777216 % 2 ≡ x.dp = omega arith in
    let pf : n / 65536 % 256 ≡ x.pf = omega arith in
    let ps : n / 256 % 256 ≡ x.ps = omega arith in
    let sa : n % 256 ≡ x.sa = omega arith in
    rw (p, edp, dp, pf, ps, sa)

-- The number of the parts of a number: each part goes below those above it.
number_parts : (n : ℕ) → n ≡ number_of (parts_of n)
unfolding number_of parts_of
number_parts n =
    let edp : n / 67108864 * 2 + n / 33554432 % 2 ≡ n / 33554432 = omega arith in
    let dp : n / 33554432 * 2 + n / 16777216 % 2 ≡ n / 16777216 = omega arith in
    let pf : n / 16777216 * 256 + n / 65536 % 256 ≡ n / 65536 = omega arith in
    let ps : n / 65536 * 256 + n / 256 % 256 ≡ n / 256 = omega arith in
    let sa : n / 256 * 256 + n % 256 ≡ n = omega arith in
    rw (edp, dp, pf, ps, sa)

-- Parting a joined identifier gives the parts back.
pub parted_joined : (x : Parts) (n : ℕ) → join_of x ≡ accepted n → part_of n ≡ accepted x
unfolding join_of
parted_joined x n h =
    let both = pick_accepted (fits_of x) (accepted (number_of x)) 8 h in
    let same : number_of x ≡ n = cc in
    let e : x ≡ parts_of n = parts_number x (within x both.0) ∙ ap parts_of same in
    sym (part_accepted x n (fits_of x) both.0 (ap fits_of e ∙ fits_number n) e)

-- Joining the parts of an accepted identifier gives it back.
pub joined_parted : (n : ℕ) (x : Parts) → part_of n ≡ accepted x → join_of x ≡ accepted n
unfolding part_of
joined_parted n x h =
    let both = pick_accepted _ (accepted (parts_of n)) 8 h in
    let same : parts_of n ≡ x = cc in
    let fits : fits_of (parts_of n) ≡ true = fits_number n ∙ both.0 in
    let e : n ≡ number_of (parts_of n) = number_parts n in
    subst (λ (y : Parts). join_of y ≡ accepted n) same (sym (join_accepted (parts_of n) n _ fits refl e))

-- The identifiers of 001 tables 4 and 5 are what joining their parts gives.
pub charger_version_joined : join_of charger_version_parts ≡ accepted charger_version
unfolding join_of fits_of number_of pick
charger_version_joined = refl

pub vehicle_version_joined : join_of vehicle_version_parts ≡ accepted vehicle_version
unfolding join_of fits_of number_of pick
vehicle_version_joined = refl

pub round_trips : RoundTrips
round_trips =
    record {
      parted_joined = parted_joined;
      joined_parted = joined_parted;
      charger_version_lem = charger_version_joined;
      vehicle_version_lem = vehicle_version_joined;
    }
