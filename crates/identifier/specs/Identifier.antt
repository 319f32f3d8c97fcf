-- The identifier as a number, and its parts. Document 01, Around the transport, "Identifier".
use Rattle.std.specs.Prelude.{ℕ, ◌+◌, ◌*◌, ◌/◌, ◌%◌, ◌<◌, ◌≡◌, Bool, ◌&&◌, eqb, ltb}
use Rattle.identifier.specs.declared.Parts.{Parts}

-- the number whose bits are those of the parts, one part after the other, the first in the highest
-- bits
unfoldable pub number_of : Parts → ℕ
number_of x = ((((x.p * 2 + x.edp) * 2 + x.dp) * 256 + x.pf) * 256 + x.ps) * 256 + x.sa

-- the bits of each part: SA has the lowest eight, PS the eight above them, PF those above, then DP,
-- EDP, and P all the rest
unfoldable pub parts_of : ℕ → Parts
parts_of n =
    record {
      p = n / 67108864;
      edp = n / 33554432 % 2;
      dp = n / 16777216 % 2;
      pf = n / 65536 % 256;
      ps = n / 256 % 256;
      sa = n % 256;
    }

-- every part inside its width, and EDP and DP 0
unfoldable pub fits_of : Parts → Bool
fits_of x =
    ltb x.p 8 && eqb x.edp 0 && eqb x.dp 0
    && ltb x.pf 256 && ltb x.ps 256 && ltb x.sa 256

-- the same as facts, by name
pub record Within (x : Parts) : Type 0 where
  pub p : x.p < 8
  pub edp : x.edp ≡ 0
  pub dp : x.dp ≡ 0
  pub pf : x.pf < 256
  pub ps : x.ps < 256
  pub sa : x.sa < 256
