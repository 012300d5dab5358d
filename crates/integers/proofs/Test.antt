-- What a signed test of the code tells, as `borrow.Author.Tests` has it for naturals: `<` or `>` on signed numbers
-- arrives as an equation on `lt_z`, and `<=` or `>=` as one on `le_z`.
use mathlib.Core.Path.{◌≡◌}
use mathlib.Core.Bool.{true, false}
use lib.IntN.{ℤ}
use lib.Signed.{lt_z, le_z, ◌≤ℤ◌, ◌<ℤ◌}
use borrow.Author.Tests.{ltb-true, ltb-false, leb-true, leb-false}
use Rattle.integers.proofs.Difference.{val_of, zval}

module _ {a b : ℤ} where
  -- The test of < is true: a < b.
  pub lt_z_true : lt_z a b ≡ true → a <ℤ b
  lt_z_true = rw (val_of a, val_of b) (simp zval (ltb-true _ _))

  -- The test of < is false: b ≤ a.
  pub lt_z_false : lt_z a b ≡ false → b ≤ℤ a
  lt_z_false = rw (val_of a, val_of b) (simp zval (ltb-false _ _))

  -- The test of ≤ is true: a ≤ b.
  pub le_z_true : le_z a b ≡ true → a ≤ℤ b
  le_z_true = rw (val_of a, val_of b) (simp zval (leb-true _ _))

  -- The test of ≤ is false: b < a.
  pub le_z_false : le_z a b ≡ false → b <ℤ a
  le_z_false = rw (val_of a, val_of b) (simp zval (leb-false _ _))
