-- Sums and products that fit an i64. The machine holds an integer as bits and reads it back at each use; `Holds M z
-- r` says that what is read is the integer itself, which is within M. Each operation keeps it, so the proof of an
-- expression follows its shape.
use mathlib.Core.Path.{◌≡◌, refl, ◌∙◌, ap₂}
use Prim.Native.Nat.{ℕ, ◌+◌, ◌*◌, ◌<◌, ◌^◌}
use lib.Dec.{lit≤}
use lib.IntN.{ℤ, pos, ◌+ℤ◌, ◌-ℤ◌, ◌*ℤ◌}
use mir.Syntax.{w64}
use mir.Val.{SFits, to_z, of_z}
use mir.Facts.{to_z-of_z}
use Rattle.integers.specs.Magnitude.{Within}
use Rattle.integers.proofs.Magnitude.{within_add, within_sub, within_mul, within_weaken, within_self}
use Rattle.integers.proofs.Machine.{within_fits}

-- What is read back of the bits of z.
abbrev pub read : ℤ → ℤ
read z = to_z w64 (of_z w64 z)

-- What is read, r, is the integer z, and z is within M.
pub record Holds (M : ℕ) (z r : ℤ) : Type 0 where
  pub same : r ≡ z
  pub size : Within M z

-- A literal.
pub literal : (k : ℕ) → Holds k (pos k) (pos k)
literal k = record { same = refl; size = within_self (pos k) }

-- An integer within a bound below 2^63.
pub held : {M : ℕ} {z : ℤ} → Within M z → M < 2 ^ 63 → Holds M z (read z)
held b h = record { same = to_z-of_z (within_fits {w = w64} b h); size = b }

module _ {M N : ℕ} {x y r s : ℤ} (p : Holds M x r) (q : Holds N y s) where
  -- A sum fits where the sum of the bounds does.
  pub add_fits : M + N < 2 ^ 63 → SFits w64 (r +ℤ s)
  add_fits h = rw (p.same, q.same) (within_fits {w = w64} (within_add p.size q.size) h)

  -- And is held.
  pub add : M + N < 2 ^ 63 → Holds (M + N) (x +ℤ y) (read (r +ℤ s))
  add h = record {
    same = to_z-of_z (add_fits h) ∙ ap₂ (λ u v. u +ℤ v) p.same q.same;
    size = within_add p.size q.size;
  }

  -- A difference fits where the sum of the bounds does.
  pub sub_fits : M + N < 2 ^ 63 → SFits w64 (r -ℤ s)
  sub_fits h = rw (p.same, q.same) (within_fits {w = w64} (within_sub p.size q.size) h)

  -- And is held.
  pub sub : M + N < 2 ^ 63 → Holds (M + N) (x -ℤ y) (read (r -ℤ s))
  sub h = record {
    same = to_z-of_z (sub_fits h) ∙ ap₂ (λ u v. u -ℤ v) p.same q.same;
    size = within_sub p.size q.size;
  }

  -- A product fits where the product of the bounds does.
  pub mul_fits : M * N < 2 ^ 63 → SFits w64 (r *ℤ s)
  mul_fits h = rw (p.same, q.same) (within_fits {w = w64} (within_mul p.size q.size) h)

  -- And is held.
  pub mul : M * N < 2 ^ 63 → Holds (M * N) (x *ℤ y) (read (r *ℤ s))
  mul h = record {
    same = to_z-of_z (mul_fits h) ∙ ap₂ (λ u v. u *ℤ v) p.same q.same;
    size = within_mul p.size q.size;
  }

-- What is within 2^60 is within 2^61.
pub wider : {z : ℤ} → Within (2 ^ 60) z → Within (2 ^ 61) z
wider b = within_weaken b (lit≤ tt)
