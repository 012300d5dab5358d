-- Document 01's coordinate of a channel: "the whole number c with 2c - 1 < 2 × v × (S-1) ≤ 2c + 1".
use Rattle.std.specs.Prelude.{ℕ, ◌-◌, ◌*◌, Float}
use Rattle.std.specs.Float.Ieee.Positive.{num, den}
use Rattle.rounding.specs.Nearest.{nearest}

-- The coordinate of the channel v at the side S: that of the value v × (S-1), as for a sample. For a v in range, num v /
-- den v is exactly the number that the f32 denotes. Elsewhere it need not be: it is the size of a finite f32, with no sign,
-- and 0 / 1 for an infinity and a NaN.
unfoldable pub coordinate_of : (S : ℕ) (v : Float) → ℕ
coordinate_of S v = nearest (den v) (num v * (S - 1))
