-- Integers and the bits of signed numbers. A signed local of the code holds bits, so its number is read back as
-- `to_z w (of_z w z)`, which is z by `mir.Facts.to_z-of_z` where z fits the width; the laws here show that it fits.
use Prim.Native.Nat.{ℕ, ◌≤◌, ◌<◌, ◌^◌}
use native.Mathlib.Omega.{arith}
use lib.IntN.{ℤ, pos, negsuc, nat_abs}
use lib.Signed.{mag}
use mir.Syntax.{Width}
use mir.Val.{SFits, hbits, to_z, of_z}
use mir.Facts.{to_z-of_z}
use Rattle.integers.specs.Magnitude.{Within}

-- The number that decides whether an integer fits is at most its magnitude.
mag-≤-nat_abs : (z : ℤ) → mag z ≤ nat_abs z
mag-≤-nat_abs (pos n) = omega arith
mag-≤-nat_abs (negsuc n) = omega arith

-- An integer within a bound that the width holds fits the width; at a numeral, `within-fits b (lit< tt)`.
pub within_fits : {w : Width} {M : ℕ} {z : ℤ} → Within M z → M < 2 ^ hbits w → SFits w z
within_fits {z} b h = record { sfits = omega (arith, mag-≤-nat_abs z) }

-- What the machine reads back of an integer within such a bound is within it too.
pub within_read : (w : Width) {M : ℕ} {z : ℤ} → Within M z → M < 2 ^ hbits w → Within M (to_z w (of_z w z))
within_read w b h = rw (to_z-of_z (within_fits {w = w} b h)) b
