-- A curve or a patch in disguise: a solid whose points do not move along v marks the cells of the patch of its points at k = 0,
-- and one whose points move along t alone those of a curve.
use Rattle.std.specs.Prelude.{◌≡◌, ◌↔◌, ℕ, ◌+◌, ◌*◌, ◌<◌, length}
use mathlib.Core.List.{List, [], ◌∷◌, ◌++◌, Memᴰ}
use Rattle.bezier.specs.Exact.{points as pointCount}
use Rattle.decide.specs.Refusal.{accepted}
use Rattle.cube.specs.Cube.{Axis, Cell}
use Rattle.drawing.specs.declared.Choice.{Choice}
use Rattle.drawing.specs.Object.{Object, curve, patch, solid, coordinate}
use Rattle.drawing.specs.Refusals.{draw_verdict, check_verdict}
use Rattle.drawing.specs.Drawing.{cells, drawn}

-- The object with further parameters after its own, of these counts, and with these points.
abbrev pub longer : (o : Object) (most : ℕ) (further points : List ℕ) → Object
longer o most further points =
    record { most = most; counts = o.counts ++ further; points = points; mark = o.mark; choice = o.choice }

-- Each point of the object stands so many times in a row among the points, which so do not move along the further parameters.
abbrev pub Still : (o : Object) (so_many : ℕ) (points : List ℕ) → Type 0
Still o so_many points =
    (a : Axis) (p q : ℕ) → p < pointCount o.counts → q < so_many →
    coordinate points a (so_many * p + q) ≡ coordinate o.points a p

-- Where the first object is accepted, both have the same cells; where both drawings are, they leave the same grid.
pub record SameCells (first second : Object) : Type 0 where
  pub cells_same : (S : ℕ) → check_verdict S first ≡ accepted → (c : Cell) → Memᴰ c (cells first) ↔ Memᴰ c (cells second)
  pub grids_same : (S : ℕ) (grid : List ℕ) → draw_verdict S (length grid) first ≡ accepted →
      draw_verdict S (length grid) second ≡ accepted → drawn S first grid ≡ drawn S second grid

pub record Claim : Type 0 where
  -- An object in any number of parameters, and any number of further ones.
  pub any_object : (o : Object) (most : ℕ) (further points : List ℕ) → Still o (pointCount further) points →
      SameCells (longer o most further points) o
  -- A patch and a curve as solids.
  pub patch_as_solid : (n m l : ℕ) (points sixteen : List ℕ) (mark : ℕ) (choice : Choice) →
      let o : Object = patch n m sixteen mark choice in Still o 4 points → SameCells (solid n m l points mark choice) o
  pub curve_as_solid : (n m l : ℕ) (points four : List ℕ) (mark : ℕ) (choice : Choice) →
      let o : Object = curve n four mark choice in Still o 16 points → SameCells (solid n m l points mark choice) o
