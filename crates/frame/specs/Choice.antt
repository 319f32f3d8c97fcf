-- How the definitions choose: by the outcome of a test.
use Rattle.std.specs.Prelude.{Bool, true, false}

-- the first where the test passes, else the second
unfoldable pub pick : {A : Type 0} → Bool → A → A → A
pick true a b = a
pick false a b = b
