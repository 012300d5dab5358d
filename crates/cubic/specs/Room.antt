-- Bounds under which every sum and product of the machine fits an i64: what each function requires.
use Rattle.std.specs.Prelude.{List, ℕ, ◌*◌, ◌≤◌, ◌<◌, ◌^◌, ℤ, pos, get_or}
use Rattle.integers.specs.Magnitude.{Within}
use Rattle.cubic.specs.declared.axis.Axis.{Axis}
use Rattle.cubic.specs.Differences.{Cubic, Every}

-- Each of four integers is within Q.
pub record Each (Q : ℕ) (q0 q1 q2 q3 : ℤ) : Type 0 where
  pub first : Within Q q0
  pub second : Within Q q1
  pub third : Within Q q2
  pub fourth : Within Q q3

-- A row whose entries are at most 6 in magnitude, as the basis matrix has them, and control values that leave room for
-- the sum of four products.
pub record Small (row : List ℤ) (q0 q1 q2 q3 : ℤ) : Type 0 where
  pub size : ℕ
  pub entries : Each 6 (get_or row 0 (pos 0)) (get_or row 1 (pos 0)) (get_or row 2 (pos 0)) (get_or row 3 (pos 0))
  pub controls : Each size q0 q1 q2 q3
  pub room : 24 * size < 2 ^ 63

-- Counts up to L and control values within Q keep values within L³Q and differences within 120L²Q, so within R.
pub record Level (L Q R : ℕ) : Type 0 where
  pub some : 1 ≤ L
  pub values : L * L * L * Q ≤ R
  pub differences : 120 * (L * L * Q) ≤ R
  pub room : R ≤ 2 ^ 60

-- A count and control values from which a cubic may start.
pub record Startable (n q0 q1 q2 q3 : ℤ) : Type 0 where
  pub limit : ℕ
  pub size : ℕ
  pub bound : ℕ
  pub level : Level limit size bound
  pub count : Within limit n
  pub controls : Each size q0 q1 q2 q3

-- Every field is within M.
abbrev pub Fields : ℕ → Cubic → Type 0
Fields M c = Every (Within M) c

-- There is room for equation 8, and then for a move.
abbrev pub Room : Cubic → Type 0
Room c = Fields (2 ^ 60) c

-- A stride h and a coordinate p with room for their product.
pub record Placed (h p : ℤ) : Type 0 where
  pub stride : Within (2 ^ 31) h
  pub point : Within (2 ^ 31) p

-- There is room for a move, with the scale N and the stride h.
pub record Settles (N h : ℤ) (a : Axis) : Type 0 where
  pub scale : Within (2 ^ 60) N
  pub stride : Within (2 ^ 61) h
  pub at : Within (2 ^ 61) a.at
  pub cubic : Fields (2 ^ 61) a.cubic

-- There is room for a step.
pub record Steps (N h : ℤ) (a : Axis) : Type 0 where
  pub scale : Within (2 ^ 60) N
  pub stride : Within (2 ^ 61) h
  pub at : Within (2 ^ 61) a.at
  pub cubic : Room a.cubic
