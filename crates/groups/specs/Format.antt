-- How a group stands in its bytes: the code, then its fields one after the other, then filler. Document 01, its opening
-- ("Words of two bytes": the low byte comes first), and Around the transport, Groups (eight bytes, with filler behind).
use Rattle.std.specs.Prelude.{ℕ, ◌+◌, ◌-◌, Bool, true, ◌&&◌, ◌||◌, List, [], ◌∷◌, ◌++◌, eqb, leb, get_or, drop, replicate}
use Rattle.frame.specs.Count.{low_byte, high_byte, word_of}
use Rattle.groups.specs.Table.{kind_at}
use Rattle.groups.specs.declared.Group.{Group}
use Rattle.groups.specs.declared.Kind.{Kind}
use Rattle.groups.specs.declared.Row.{Row}
use Rattle.groups.specs.declared.Width.{Width}
use Rattle.groups.specs.declared.Width.TheVariants.{None, Byte, Word}

-- the kinds of a row's four fields, and a group's four values, as lists
abbrev pub kinds_of : Row → List Kind
kinds_of x = kind_at x.first ∷ kind_at x.second ∷ kind_at x.third ∷ kind_at x.fourth ∷ []

abbrev pub values : Group → List ℕ
values x = x.first ∷ x.second ∷ x.third ∷ x.fourth ∷ []

-- how many bytes a field has, and fields together
abbrev pub size_of : Width → ℕ
size_of None = 0
size_of Byte = 1
size_of Word = 2

abbrev pub sizes_of : List Kind → ℕ
sizes_of [] = 0
sizes_of (k ∷ ks) = size_of k.width + sizes_of ks

-- a kind allows the values of its range and its marks; kinds allow values, each its own
unfoldable pub allowed : Kind → ℕ → Bool
allowed k v = leb k.low v && leb v k.high || eqb v k.mark || eqb v k.other

abbrev pub all_allowed : List Kind → List ℕ → Bool
all_allowed [] vs = true
all_allowed (k ∷ ks) [] = true
all_allowed (k ∷ ks) (v ∷ vs) = allowed k v && all_allowed ks vs

-- a row allows the values that the kinds of its fields do: what reading and writing judge by
unfoldable pub row_allows : Row → List ℕ → Bool
row_allows x vs = all_allowed (kinds_of x) vs

-- the value of a field at the front of some bytes, and of fields one after the other
abbrev pub value_of : Width → List ℕ → ℕ
value_of None s = 0
value_of Byte s = get_or s 0 0
value_of Word s = word_of (get_or s 0 0) (get_or s 1 0)

abbrev pub values_of : List Kind → List ℕ → List ℕ
values_of [] s = []
values_of (k ∷ ks) s = value_of k.width s ∷ values_of ks (drop (size_of k.width) s)

-- the bytes of a value in a field, and of values in fields one after the other
abbrev pub bytes_of : Width → ℕ → List ℕ
bytes_of None v = []
bytes_of Byte v = low_byte v ∷ []
bytes_of Word v = low_byte v ∷ high_byte v ∷ []

abbrev pub fields_of : List Kind → List ℕ → List ℕ
fields_of [] vs = []
fields_of (k ∷ ks) [] = []
fields_of (k ∷ ks) (v ∷ vs) = bytes_of k.width v ++ fields_of ks vs

-- the group of a code and four values
abbrev pub group_of : ℕ → List ℕ → Group
group_of code vs =
    record {
      code = code;
      first = get_or vs 0 0;
      second = get_or vs 1 0;
      third = get_or vs 2 0;
      fourth = get_or vs 3 0;
    }

-- the group in eight bytes, whose fields start after the code, and the eight bytes of a group
unfoldable pub group_from : ℕ → List Kind → List ℕ → Group
group_from code ks s = group_of code (values_of ks (drop 1 s))

unfoldable pub bytes_for : ℕ → List Kind → List ℕ → List ℕ
bytes_for code ks vs = code ∷ fields_of ks vs ++ replicate (7 - sizes_of ks) 255
