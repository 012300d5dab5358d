-- The surface through sixteen coordinates, within its limits: it may start along t and then along u.
use mathlib.Core.Path.{◌≡◌, ◌∙◌, ap}
use mathlib.Core.List.{List}
use Prim.Native.Nat.{ℕ, ◌+◌, ◌*◌, ◌<◌, zero-le}
use native.Mathlib.Nat.{le_trans}
use native.Mathlib.Omega.{arith}
use lib.Dec.{lit≤}
use lib.IntN.{ℤ, pos}
use lib.ListN.{length, get_or}
use Rattle.cubic.specs.Blend.{column, surface, twice}
use Rattle.cubic.specs.Differences.{differences_at}
use Rattle.cubic.specs.Room.{Fields}
use Rattle.cubic.proofs.Levels.{each_doubled, patch_column, start_across_lem}
use Rattle.surface.specs.Surface.{StartsAcross}
use Rattle.surface.proofs.Follows.{starts_across}
use Rattle.scan.specs.Column.{doubled_column, InColumn}
use Rattle.scan.proofs.Column.{column_room}
use Rattle.rows.specs.Face.{doubled_face, InFace}

-- Coordinates number a of the points number k, q + k, 2q + k and 3q + k are 3q bytes apart.
column_bytes : (points : List ℕ) (n q a k : ℕ) →
    doubled_column points n (3 * q) (3 * k + a) ≡ column (pos n) (twice (λ p. get_or points (3 * p + a) 0)) q k
column_bytes points n q a k =
    let one : 3 * q + (3 * k + a) ≡ 3 * (q + k) + a = omega arith in
    let two : 2 * (3 * q) + (3 * k + a) ≡ 3 * (2 * q + k) + a = omega arith in
    let three : 3 * (3 * q) + (3 * k + a) ≡ 3 * (3 * q + k) + a = omega arith in
    rw (one, two, three)

-- Columns that are the same make the same surface.
same_columns : (m : ℤ) {f0 g0 f1 g1 f2 g2 f3 g3 : ℕ → ℤ} → f0 ≡ g0 → f1 ≡ g1 → f2 ≡ g2 → f3 ≡ g3 →
    surface m f0 f1 f2 f3 ≡ surface m g0 g1 g2 g3
same_columns m p q r s = rw (p, q, r, s)

-- The face through coordinate number a of the points: its columns begin at the points number k, s + k, 2s + k and 3s + k, and
-- in a column each point is q on.
pub face_bytes : (points : List ℕ) (n m q s a k : ℕ) {apart across at : ℕ} → apart ≡ 3 * q → across ≡ 3 * s → at ≡ 3 * k + a →
    let g : ℕ → ℤ = twice (λ p. get_or points (3 * p + a) 0) in
    doubled_face points n m apart across at ≡
    surface (pos m)
    (column (pos n) g q k) (column (pos n) g q (s + k)) (column (pos n) g q (2 * s + k)) (column (pos n) g q (3 * s + k))
face_bytes points n m q s a k e f h =
    let one : 3 * s + (3 * k + a) ≡ 3 * (s + k) + a = omega arith in
    let two : 2 * (3 * s) + (3 * k + a) ≡ 3 * (2 * s + k) + a = omega arith in
    let three : 3 * (3 * s) + (3 * k + a) ≡ 3 * (3 * s + k) + a = omega arith in
    let at_byte : (b : ℕ) → ℕ → ℤ = doubled_column points n (3 * q) in
    rw (e, f, h)
    (same_columns (pos m)
    (column_bytes points n q a k)
    (ap at_byte one ∙ column_bytes points n q a (s + k))
    (ap at_byte two ∙ column_bytes points n q a (2 * s + k))
    (ap at_byte three ∙ column_bytes points n q a (3 * s + k)))

module _ {points : List ℕ} {n m apart across at : ℕ} (l : InFace points n m apart across at) where
  -- The column at a byte.
  module _ (b : ℕ) (there : 3 * apart + b < length points) where
    in_column : InColumn points n apart b
    in_column =
        record { count = le_trans l.n_most (lit≤ tt); there = there; coordinates = l.coordinates }

    column_fields : Fields 2113929216 (differences_at (doubled_column points n apart b) 0)
    column_fields =
        patch_column l.n_most
        (each_doubled
        (l.coordinates b (omega arith)) (l.coordinates (apart + b) (omega arith))
        (l.coordinates (2 * apart + b) (omega arith)) (l.coordinates (3 * apart + b) there))
        zero-le

  -- The start along u.
  pub face_starts : StartsAcross (pos m)
      (differences_at (doubled_column points n apart at) 0)
      (differences_at (doubled_column points n apart (across + at)) 0)
      (differences_at (doubled_column points n apart (2 * across + at)) 0)
      (differences_at (doubled_column points n apart (3 * across + at)) 0)
  face_starts =
      let h = l.there in
      let b0 : 3 * apart + at < length points = omega arith in
      let b1 : 3 * apart + (across + at) < length points = omega arith in
      let b2 : 3 * apart + (2 * across + at) < length points = omega arith in
      starts_across
      (doubled_column points n apart at) (doubled_column points n apart (across + at))
      (doubled_column points n apart (2 * across + at)) (doubled_column points n apart (3 * across + at))
      (start_across_lem
      (doubled_column points n apart at) (doubled_column points n apart (across + at))
      (doubled_column points n apart (2 * across + at)) (doubled_column points n apart (3 * across + at)) l.m_most
      (column_fields at b0) (column_fields (across + at) b1) (column_fields (2 * across + at) b2) (column_fields (3 * across + at) h))
