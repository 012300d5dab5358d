-- Document 01, "The colour cube" and "Exact samples and the walk", with document 02's A.3, A.11 and A.13: the curve, the patch
-- and the solid, their exact samples and their cells.
use Rattle.std.specs.Prelude.{List, [], ◌∷◌, ℕ, ◌+◌, ◌*◌, get_or}
use Rattle.bezier.specs.Exact.{scale, value}
use Rattle.rounding.specs.Nearest.{nearest}
use Rattle.cube.specs.Cube.{Axis, x_axis, y_axis, z_axis, Cell}
use Rattle.drawing.specs.declared.Choice.{Choice}

-- What a call draws: step counts, one a parameter, each 1 to `most`; the points' coordinates, three a point; a mark; and the
-- choice, over or under.
pub record Object : Type 0 where
  pub most : ℕ
  pub counts : List ℕ
  pub points : List ℕ
  pub mark : ℕ
  pub choice : Choice

-- A curve: twelve coordinates, x, y, z of points 0 to 3, with its step count n, 1 to 512.
abbrev pub curve : (n : ℕ) (points : List ℕ) (mark : ℕ) (choice : Choice) → Object
curve n points mark choice = record { most = 512; counts = n ∷ []; points = points; mark = mark; choice = choice }

-- A patch: sixteen points g(i, j) with point number 4 × i + j, and counts n along t and m along u, each 1 to 256.
abbrev pub patch : (n m : ℕ) (points : List ℕ) (mark : ℕ) (choice : Choice) → Object
patch n m points mark choice = record { most = 256; counts = n ∷ m ∷ []; points = points; mark = mark; choice = choice }

-- A solid, the tricubic volume of A.13: sixty-four points g(i, j, k) with point number 16 × i + 4 × j + k, and counts n along t,
-- m along u and l along v, each 1 to 32.
abbrev pub solid : (n m l : ℕ) (points : List ℕ) (mark : ℕ) (choice : Choice) → Object
solid n m l points mark choice =
    record { most = 32; counts = n ∷ m ∷ l ∷ []; points = points; mark = mark; choice = choice }

-- The same object with a choice of its own.
abbrev pub going : Choice → Object → Object
going choice o =
    record { most = o.most; counts = o.counts; points = o.points; mark = o.mark; choice = choice }

-- Where an axis stands among a point's three coordinates.
unfoldable pub offset : Axis → ℕ
offset x_axis = 0
offset y_axis = 1
offset z_axis = 2

-- The coordinate of point number k.
unfoldable pub coordinate : (points : List ℕ) (a : Axis) (k : ℕ) → ℕ
coordinate points a k = get_or points (3 * k + offset a) 0

module _ (o : Object) where
  -- The scale of the exact values: N.
  abbrev pub scale_of : ℕ
  scale_of = scale o.counts

  -- The exact value of a sample on an axis, over `scale_of`.
  unfoldable pub exact : Axis → List ℕ → ℕ
  exact a is = value o.counts (coordinate o.points a) is

  -- The cell of a sample: on each axis the coordinate of its exact value, and at a half the lower one.
  unfoldable pub cell_of : List ℕ → Cell
  cell_of is a = nearest scale_of (exact a is)
