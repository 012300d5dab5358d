-- Document 02, A.3: "a cell owns the values above c - 0.5 up to and including c + 0.5", on one axis, for samples and for
-- swatches. A value is the numerator v over the scale s, which is not 0; a coordinate c is s × c over s. Both are
-- doubled, so that a half is whole too.
use Rattle.std.specs.Prelude.{Bool, ◌&&◌, ℕ, suc, pred, ◌+◌, ◌*◌, ◌/◌, ◌≤◌, ◌<◌, leb}

-- The coordinate c owns the value.
pub record Owns (s c v : ℕ) : Type 0 where
  pub above : 2 * (s * c) < 2 * v + s
  pub up_to : 2 * v ≤ 2 * (s * c) + s

-- The coordinate of the value: the whole number nearest to it, and at a half the lower of two ("round half down"). It
-- is the largest c with s × c below v + s / 2.
unfoldable pub nearest : (s v : ℕ) → ℕ
nearest s v = (2 * v + pred s) / (2 * s)

-- The value is within half a cell of the coordinate, a half itself included: the two differ by at most a half.
unfoldable pub within_half : (s c v : ℕ) → Bool
within_half s c v = leb (2 * v) (2 * (s * c) + s) && leb (2 * (s * c)) (2 * v + s)

-- Two values are at most one cell apart.
pub record AtMostOneApart (s v w : ℕ) : Type 0 where
  pub up : w ≤ v + s
  pub down : v ≤ w + s

-- Two coordinates differ by at most one.
pub record NextTo (c d : ℕ) : Type 0 where
  pub up : d ≤ suc c
  pub down : c ≤ suc d
