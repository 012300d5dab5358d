-- From a row of cells to the row after it.
use Rattle.std.specs.Prelude.{◌≡◌, ℕ, ◌+◌, ◌*◌, ◌<◌}
use Rattle.cube_totals.specs.declared.tally.Row.{Row}

-- The number of a row, from 0.
abbrev pub row_number : (S : ℕ) → Row → ℕ
row_number S r = r.y + S * r.z

pub record Next (S : ℕ) (r next : Row) : Type 0 where
  pub y_in : next.y < S
  pub is : row_number S next ≡ row_number S r + 1
