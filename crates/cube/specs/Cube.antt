-- Document 01, "The colour cube": sides, cells and their byte places.
use Rattle.std.specs.Prelude.{Bool, ◌||◌, ℕ, ◌+◌, ◌*◌, ◌/◌, ◌%◌, ◌<◌, ltb}

-- The three axes. Laws are stated over the axis, once.
pub data Axis : Type 0 where
  x_axis y_axis z_axis : Axis

-- Some axis passes.
unfoldable pub some_axis : (Axis → Bool) → Bool
some_axis p = p x_axis || p y_axis || p z_axis

-- A cell, a voxel of the cube: its coordinate on each axis.
abbrev pub Cell : Type 0
Cell = Axis → ℕ

-- A side lies from 2 to 64.
unfoldable pub side_out : ℕ → Bool
side_out S = ltb S 2 || ltb 64 S

-- A cell of a cube of side S: each coordinate is 0 to S - 1.
abbrev pub Inside : (S : ℕ) (c : Cell) → Type 0
Inside S c = (a : Axis) → c a < S

-- The grid's length: S × S × S bytes.
abbrev pub volume : ℕ → ℕ
volume S = S * S * S

-- The byte at which a cell stands: x + S × y + S × S × z.
unfoldable pub place : (S : ℕ) (c : Cell) → ℕ
place S c = c x_axis + S * c y_axis + S * S * c z_axis

-- The cell that stands at byte p.
abbrev pub cell_at : (S p : ℕ) → Cell
cell_at S p x_axis = p % S
cell_at S p y_axis = p / S % S
cell_at S p z_axis = p / (S * S)
