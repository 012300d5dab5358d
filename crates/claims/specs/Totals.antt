-- Document 02, A.2: the counts of a sheet's totals add up to S × S × S, and the sums to those over all cells.
use Rattle.std.specs.Prelude.{◌≡◌, List, ℕ, ◌-◌, ◌*◌, ◌/◌, ◌^◌, ◌<◌, get_or}
use Rattle.cube.specs.Cube.{Axis, volume}
use Rattle.sheet.specs.Sheet.{Stroke, good, judge}
use Rattle.sheet.specs.Printed.{cube_of}
use Rattle.totals.specs.Totals.{count, sum, numbers, marks, totals}
use Rattle.totals.specs.Sums.{sum_of}
use Rattle.totals.specs.Printed.{totals_output}

-- What the lines of a cube's totals add up to, and that each of their numbers fits its 10 columns.
pub record AddUp (S : ℕ) (cube : List ℕ) : Type 0 where
  pub counts : sum_of (count cube) (marks cube) ≡ volume S
  pub sums : (a : Axis) → sum_of (sum S a cube) (marks cube) ≡ volume S * (S - 1) / 2
  pub fits : (mark : ℕ) → mark < 256 → (k : ℕ) → get_or (numbers S cube mark) k 0 < 10 ^ 10

-- Of an accepted sheet the totals of its cube are printed, and they add up.
pub record SheetTotals (input : List ℕ) (S : ℕ) (strokes : List Stroke) : Type 0 where
  pub printed : totals_output input ≡ totals S (cube_of S strokes)
  pub add_up : AddUp S (cube_of S strokes)

pub record Claim : Type 0 where
  pub sheet_totals : (input : List ℕ) (S : ℕ) (strokes : List Stroke) → judge input ≡ good S strokes →
      SheetTotals input S strokes
