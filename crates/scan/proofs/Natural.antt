-- Natural numbers as the machine holds them in an i64.
use mathlib.Core.Path.{◌≡◌}
use Prim.Native.Nat.{ℕ, ◌≤◌, ◌<◌, ◌*◌, ◌^◌}
use native.Mathlib.Nat.{le_of_lt, mul-le-mul}
use lib.Dec.{lit<}
use lib.IntN.{ℤ, pos}
use mir.Syntax.{w64}
use mir.Val.{to_z}
use Rattle.integers.proofs.Magnitude.{within_pos}
use Rattle.scan.specs.Walker.{SmallStride}
use Rattle.cubic.proofs.Fits.{Holds, read, held}

-- The bits of a number below 2^32 read back as the number.
pub natural_read : (k : ℕ) → k < 2 ^ 32 → to_z w64 k ≡ pos k
natural_read k h = (held {z = pos k} (within_pos (le_of_lt h)) (lit< tt)).same

-- What a call answered is held.
pub natural_held : {k M : ℕ} {r : ℤ} → r ≡ pos k → k ≤ M → M < 2 ^ 63 → Holds M (pos k) (read r)
natural_held {k} e h l = rw e (held {z = pos k} (within_pos h) l)

-- A side's square.
pub square_at_most : {S : ℕ} → S ≤ 64 → S * S ≤ 4096
square_at_most h = mul-le-mul h h

-- A cube grows with its side.
pub cube_grows : {a b : ℕ} → a ≤ b → a * a * a ≤ b * b * b
cube_grows h = mul-le-mul (mul-le-mul h h) h

-- What is read back of an answer that is a number below 2^32.
pub answer_read : {k : ℕ} {r : ℤ} → r ≡ pos k → k < 2 ^ 32 → read r ≡ pos k
answer_read e h = (natural_held e (le_of_lt h) (lit< tt)).same

-- What is read back of a stride.
module _ {h : ℤ} (p : SmallStride h) where
  pub stride_read : read h ≡ h
  stride_read = (held p (lit< tt)).same

  pub small_read : SmallStride (read h)
  small_read = rw stride_read p
