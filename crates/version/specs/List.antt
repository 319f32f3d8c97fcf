-- Versions and the list of them. 001, 7.2.1, table 3: a version has a major, a minor and a
-- temporary number, and versions compare as their numbers do (版本的比较即数字的大小比较).
use Rattle.std.specs.Prelude.{ℕ, ◌+◌, ◌-◌, ◌*◌, ◌/◌, ◌%◌, Bool, true, ◌&&◌, List, [], ◌∷◌, ◌++◌, eqb, ltb, length, get_or, take, replicate, Some, None}
use Rattle.std.specs.declared.option.Option.{Option}
use Rattle.frame.specs.Choice.{pick}
use Rattle.frame.specs.Count.{within}
use Rattle.frame.specs.Result.{Result, accepted, refused}
use Rattle.version.specs.declared.Versions.{Versions}

-- a version as a number, major first
abbrev pub version_of : ℕ → ℕ → ℕ → ℕ
version_of major minor temporary = 65536 * major + 256 * minor + temporary

-- its three bytes
abbrev pub major_of : ℕ → ℕ
major_of version = version / 65536 % 256

abbrev pub minor_of : ℕ → ℕ
minor_of version = version / 256 % 256

abbrev pub temporary_of : ℕ → ℕ
temporary_of version = version % 256

-- the versions in lent bytes, three for each
unfoldable pub versions_in : List ℕ → List ℕ
versions_in [] = []
versions_in (a ∷ []) = []
versions_in (a ∷ b ∷ []) = []
versions_in (a ∷ b ∷ c ∷ more) = version_of a b c ∷ versions_in more

-- the version at a place of lent bytes; 0 past the last
abbrev pub lent : List ℕ → ℕ → ℕ
lent bytes place = get_or (versions_in bytes) place 0

-- each above the one before it
unfoldable pub rising : List ℕ → Bool
rising [] = true
rising (v ∷ []) = true
rising (v ∷ w ∷ more) = ltb v w && rising (w ∷ more)

-- a list's versions as they are kept: eight places, 0 after the last
abbrev pub places : List ℕ → List ℕ
places versions = take 8 (versions ++ replicate 8 0)

abbrev pub placed : List ℕ → Versions
placed versions = record { count = length versions; numbers = places versions }

-- the versions that stand in a kept list
abbrev pub standing : Versions → List ℕ
standing v = take v.count v.numbers

-- each is a number of three bytes
unfoldable pub three_bytes : List ℕ → Bool
three_bytes [] = true
three_bytes (v ∷ more) = ltb v 0x1000000 && three_bytes more

-- Refusals, by place, version list: one to eight versions stand, and they rise. A version has three
-- bytes. The places after the last are not judged.
unfoldable pub is_list : Versions → Bool
is_list v = within 1 v.count 8 && (rising (standing v) && three_bytes (standing v))

-- a list is lent as bytes, three for each version and none left over; any other is refused 11
abbrev pub is_lent : List ℕ → List ℕ → Bool
is_lent bytes versions = eqb (length bytes) (3 * length versions) && is_list (placed versions)

abbrev pub list_from : List ℕ → List ℕ → Result Versions
list_from bytes versions = pick (is_lent bytes versions) (accepted (placed versions)) (refused 11)

unfoldable pub list_of : List ℕ → Result Versions
list_of bytes = list_from bytes (versions_in bytes)

-- the same, with a list beside a refusal too, as C has it: where it is refused, the list of no versions
pub data ListOutcome : Type 0 where
  Accepted : ListOutcome
  Refused : ℕ → ListOutcome

pub record Listed : Type 0 where
  pub versions : Versions
  pub outcome : ListOutcome

abbrev pub listed_of : Result Versions → Listed
listed_of (accepted v) = record { versions = v; outcome = Accepted }
listed_of (refused number) = record { versions = placed []; outcome = Refused number }

-- the version at a place of the list
abbrev pub at : Versions → ℕ → ℕ
at v place = get_or v.numbers place 0

-- 001 tables 8 and 9, note 3: Ns "at first points at the highest version number"
abbrev pub highest : Versions → ℕ
highest v = v.count - 1

-- the first place, counted from n, that holds this version, if one does
unfoldable pub place_of : List ℕ → ℕ → ℕ → Option ℕ
place_of [] version n = None
place_of (v ∷ more) version n = pick (eqb v version) (Some n) (place_of more version (n + 1))

-- the first place if there is one, else the second
abbrev pub or_else : Option ℕ → Option ℕ → Option ℕ
or_else None p = p
or_else (Some n) p = Some n

-- the last place, counted from n, that holds a version below this one; in a rising list, the
-- highest of them
unfoldable pub place_below : List ℕ → ℕ → ℕ → Option ℕ
place_below [] version n = None
place_below (v ∷ more) version n =
    or_else (place_below more version (n + 1)) (pick (ltb v version) (Some n) None)

-- in a kept list: the place of this version, and that of the highest version below it
abbrev pub find : Versions → ℕ → Option ℕ
find v version = place_of (standing v) version 0

abbrev pub find_below : Versions → ℕ → Option ℕ
find_below v version = place_below (standing v) version 0
