-- The bounds at the limits, coordinates up to 63: control values 2g, within 126, keep every number of a curve to n =
-- 512, of a patch to 256 × 256 and of a volume to 32 × 32 × 32 within 2^60, so what the functions require is met.
use Prim.Native.Nat.{ℕ, ◌+◌, ◌*◌, ◌≤◌, ◌<◌, ◌^◌, zero-le}
use native.Mathlib.Nat.{le_trans}
use native.Mathlib.Omega.{arith}
use lib.Dec.{lit≤, lit<}
use lib.IntN.{ℤ, pos}
use Rattle.integers.specs.Magnitude.{Within}
use Rattle.integers.proofs.Magnitude.{within_pos, within_weaken, within_mul}
use Rattle.cubic.specs.declared.axis.Axis.{Axis}
use Rattle.cubic.specs.Blend.{samples, column, patch, face, volume, twice}
use Rattle.cubic.specs.Differences.{Cubic, delta, differences_at}
use Rattle.cubic.specs.Room.{Each, Level, Startable, Fields, Room, Steps}
use Rattle.cubic.specs.Tracks.{Tracks, Remainder}
use Rattle.cubic.proofs.Tracks.{remainder_within}
use Rattle.cubic.proofs.Rows.{row_delta}
use Rattle.cubic.proofs.Across.{delta_same}
use Rattle.cubic.proofs.Bounds.{level_start, level_fields, within_fields, differences_each, surface_within}

-- A level by computation.
level : {L Q R : ℕ} → 1 ≤ L → L * L * L * Q ≤ R → 120 * (L * L * Q) ≤ R → R ≤ 2 ^ 60 → Level L Q R
level a b c d = record { some = a; values = b; differences = c; room = d }

-- A curve.
curve_level : Level 512 126 16911433728
curve_level = level (lit≤ tt) (lit≤ tt) (lit≤ tt) (lit≤ tt)

-- A patch, from its points along one parameter, and from what that gives along the other.
patch_level : Level 256 126 2113929216
patch_level = level (lit≤ tt) (lit≤ tt) (lit≤ tt) (lit≤ tt)

patch_level_2 : Level 256 2113929216 35465847065542656
patch_level_2 = level (lit≤ tt) (lit≤ tt) (lit≤ tt) (lit≤ tt)

-- A volume, along the first, the second and the third parameter.
volume_level : Level 32 126 15482880
volume_level = level (lit≤ tt) (lit≤ tt) (lit≤ tt) (lit≤ tt)

volume_level_2 : Level 32 15482880 1902536294400
volume_level_2 = level (lit≤ tt) (lit≤ tt) (lit≤ tt) (lit≤ tt)

volume_level_3 : Level 32 1902536294400 233783659855872000
volume_level_3 = level (lit≤ tt) (lit≤ tt) (lit≤ tt) (lit≤ tt)

-- Fields within the bound of a level leave room.
fields_room : {L Q R : ℕ} {c : Cubic} → Level L Q R → Fields R c → Room c
fields_room l b = record {
  value = within_weaken b.value l.room;
  d1 = within_weaken b.d1 l.room;
  d2 = within_weaken b.d2 l.room;
  d3 = within_weaken b.d3 l.room;
}

-- An axis has room for a step where the differences of its sequence have, the remainder is above -N and up to N, and the
-- coordinate is below 64.
pub tracks_steps : {s h c : ℕ} {a : Axis} (P : ℕ → ℤ) (i : ℕ) → Tracks s (pos h) P i c a →
    Room (differences_at P i) → Remainder s a.cubic.value → s ≤ 2 ^ 60 → h ≤ 4096 → c ≤ 63 → Steps (pos s) (pos h) a
unfolding differences_at
tracks_steps P i t r b hs hh hc = record {
  scale = within_pos hs;
  stride = within_pos (le_trans hh (lit≤ tt));
  at = rw t.place (within_weaken (within_mul (within_pos hh) (within_pos hc)) (lit≤ tt));
  cubic = record {
    value = within_weaken (remainder_within b) (le_trans hs (lit≤ tt));
    d1 = rw t.first r.d1;
    d2 = rw t.second r.d2;
    d3 = rw t.third r.d3;
  };
}

-- Doubled coordinates are within 126.
doubled : {g : ℕ} → g ≤ 63 → Within 126 (pos (2 * g))
doubled h = within_pos (omega arith)

pub each_doubled : {a b c d : ℕ} → a ≤ 63 → b ≤ 63 → c ≤ 63 → d ≤ 63 →
    Each 126 (pos (2 * a)) (pos (2 * b)) (pos (2 * c)) (pos (2 * d))
each_doubled a b c d = record { first = doubled a; second = doubled b; third = doubled c; fourth = doubled d }

module _ {n : ℕ} {q0 q1 q2 q3 : ℤ} (hn : n ≤ 512) (e : Each 126 q0 q1 q2 q3) where
  -- A curve starts.
  pub curve_start : Startable (pos n) q0 q1 q2 q3
  curve_start = level_start curve_level e hn

  -- And goes on, from sample 0 to sample n.
  pub curve_room : (i : ℕ) → i ≤ n → Room (differences_at (samples (pos n) q0 q1 q2 q3) i)
  curve_room i h = fields_room curve_level (level_fields curve_level e hn h)

-- The values and differences of a patch's column.
pub patch_column : {n i : ℕ} {q0 q1 q2 q3 : ℤ} → n ≤ 256 → Each 126 q0 q1 q2 q3 → i ≤ n →
    Fields 2113929216 (differences_at (samples (pos n) q0 q1 q2 q3) i)
patch_column hn e hi = level_fields patch_level e hn hi

-- A patch with the points g: the curves along t through its columns, and what they give along u.
module _ {n m : ℕ} (g : ℕ → ℕ) (hn : n ≤ 256) (hm : m ≤ 256) (hg : (k : ℕ) → k < 16 → g k ≤ 63) where
  abbrev col : ℕ → ℕ → ℤ
  col k = column (pos n) (twice g) 4 k

  columns : (k : ℕ) → k < 4 → (i : ℕ) → i ≤ n → Fields 2113929216 (differences_at (col k) i)
  columns k h i hi =
      patch_column hn
      (each_doubled
      (hg k (omega arith)) (hg (4 + k) (omega arith)) (hg (8 + k) (omega arith)) (hg (12 + k) (omega arith)))
      hi

  -- Every difference along u of a difference along t, each of order 0 to 3, has room.
  pub patch_within : (k q i j : ℕ) → k < 4 → q < 4 → i ≤ n → j ≤ m →
      Within (2 ^ 60) (delta q (λ b. delta k (λ a. patch n m (twice g) a b) i) j)
  patch_within k q i j hk hq hi hj =
      within_weaken
      (surface_within (col 0) (col 1) (col 2) (col 3) i
      (columns 0 (lit< tt) i hi) (columns 1 (lit< tt) i hi) (columns 2 (lit< tt) i hi) (columns 3 (lit< tt) i hi)
      patch_level_2 hm hj k q hk hq)
      patch_level_2.room

-- A surface starts along u, up to 256, from what four columns give along t.
module _ {m : ℕ} (f0 f1 f2 f3 : ℕ → ℤ) (hm : m ≤ 256)
    (b0 : Fields 2113929216 (differences_at f0 0)) (b1 : Fields 2113929216 (differences_at f1 0))
    (b2 : Fields 2113929216 (differences_at f2 0)) (b3 : Fields 2113929216 (differences_at f3 0)) where
  pub start_across_lem : (k : ℕ) → k < 4 → Startable (pos m) (delta k f0 0) (delta k f1 0) (delta k f2 0) (delta k f3 0)
  start_across_lem k h = level_start patch_level_2 (differences_each f0 f1 f2 f3 0 b0 b1 b2 b3 k h) hm

-- A volume with the points g: the curves along t through its columns, its faces, and what they give along v.
module _ {n m : ℕ} (g : ℕ → ℕ) (hn : n ≤ 32) (hm : m ≤ 32) (hg : (p : ℕ) → p < 64 → g p ≤ 63) where
  abbrev edge : ℕ → ℕ → ℤ
  edge p = column (pos n) (twice g) 16 p

  edges : (p : ℕ) → p < 16 → (i : ℕ) → i ≤ n → Fields 15482880 (differences_at (edge p) i)
  edges p h i hi =
      level_fields volume_level
      (each_doubled
      (hg p (omega arith)) (hg (16 + p) (omega arith)) (hg (32 + p) (omega arith)) (hg (48 + p) (omega arith)))
      hn hi

  -- The differences along t of a face, of order k at i, as a sequence along u.
  abbrev across : (k i p : ℕ) → ℕ → ℤ
  across k i p b = delta k (λ a. face n m (twice g) p a b) i

  faces : (k i j p : ℕ) → k < 4 → i ≤ n → j ≤ m → p < 4 → Fields 1902536294400 (differences_at (across k i p) j)
  faces k i j p hk hi hj hp =
      within_fields (across k i p) j (λ q hq.
      surface_within (edge p) (edge (4 + p)) (edge (8 + p)) (edge (12 + p)) i
      (edges p (omega arith) i hi) (edges (4 + p) (omega arith) i hi)
      (edges (8 + p) (omega arith) i hi) (edges (12 + p) (omega arith) i hi)
      volume_level_2 hm hj k q hk hq)

  -- They have room.
  pub face_room : (k p : ℕ) → k < 4 → p < 4 → Room (differences_at (across k 0 p) 0)
  face_room k p hk hp = fields_room volume_level_2 (faces k 0 0 p hk zero-le zero-le hp)

  module _ {l : ℕ} (hl : l ≤ 32) where
    -- The faces start along v.
    pub volume_start : (k q : ℕ) → k < 4 → q < 4 →
        Startable (pos l)
        (delta q (across k 0 0) 0) (delta q (across k 0 1) 0) (delta q (across k 0 2) 0) (delta q (across k 0 3) 0)
    volume_start k q hk hq =
        level_start volume_level_3
        (differences_each (across k 0 0) (across k 0 1) (across k 0 2) (across k 0 3) 0
        (faces k 0 0 0 hk zero-le zero-le (lit< tt)) (faces k 0 0 1 hk zero-le zero-le (lit< tt))
        (faces k 0 0 2 hk zero-le zero-le (lit< tt)) (faces k 0 0 3 hk zero-le zero-le (lit< tt)) q hq)
        hl

    -- Every difference along v of one along u of one along t, each of order 0 to 3, has room.
    pub volume_within : (k q r i j b : ℕ) → k < 4 → q < 4 → r < 4 → i ≤ n → j ≤ m → b ≤ l →
        Within (2 ^ 60)
        (delta r (λ w. delta q (λ u. delta k (λ a. volume n m l (twice g) a u w) i) j) b)
    volume_within k q r i j b hk hq hr hi hj hb =
        rw (delta_same r (λ w. delta_same q (λ u.
        row_delta (pos l)
        (λ a. face n m (twice g) 0 a u) (λ a. face n m (twice g) 1 a u)
        (λ a. face n m (twice g) 2 a u) (λ a. face n m (twice g) 3 a u) k i w) j) b)
        (within_weaken
        (surface_within (across k i 0) (across k i 1) (across k i 2) (across k i 3) j
        (faces k i j 0 hk hi hj (lit< tt)) (faces k i j 1 hk hi hj (lit< tt))
        (faces k i j 2 hk hi hj (lit< tt)) (faces k i j 3 hk hi hj (lit< tt))
        volume_level_3 hl hb q r hq hr)
        volume_level_3.room)
