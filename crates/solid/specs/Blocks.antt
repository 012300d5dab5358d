-- Slices by their differences, on one axis and on three: what the machine goes through, and within which limits.
use Rattle.std.specs.Prelude.{ℕ, suc, ℤ}
use Rattle.cube.specs.Cube.{Axis}
use Rattle.surface.specs.Volume.{Volume}
use Rattle.surface.specs.Surface.{row_of, next_surface, SurfaceRoom}
use Rattle.scan.specs.declared.xyz.Xyz.{Xyz}
use Rattle.scan.specs.Walker.{Strides, on, mapped, paired, stride_of}
use Rattle.rows.specs.declared.Line.{Line}
use Rattle.rows.specs.Lines.{Lines, start_line, LineRoom, next_line, row_line}
use Rattle.solid.specs.declared.slices.Block.{Block}

-- Slice 0 of a volume on one axis, in the cell of point 0.
abbrev pub start_block : (stride point : ℤ) → Volume → Block
start_block stride point v =
    record { value = start_line stride point v.value; d1 = v.d1; d2 = v.d2; d3 = v.d3 }

abbrev pub Blocks : Type 0
Blocks = Xyz Block

abbrev pub block_of : Blocks → Axis → Block
block_of b a = on b a

-- There is room for the next slice on one axis, and on three.
pub record BlockRoom (scale stride : ℤ) (b : Block) : Type 0 where
  pub value : LineRoom scale stride b.value
  pub d1 : SurfaceRoom b.d1
  pub d2 : SurfaceRoom b.d2
  pub d3 : SurfaceRoom b.d3

pub record BlocksRoom (scale : ℤ) (h : Strides) (b : Blocks) : Type 0 where
  pub on : (a : Axis) → BlockRoom scale (stride_of h a) (block_of b a)

-- The next slice on one axis, and on three.
abbrev pub next_block : (scale stride : ℤ) → Block → Block
next_block scale stride b = record {
  value = next_line scale stride b.value;
  d1 = next_surface b.d1;
  d2 = next_surface b.d2;
  d3 = next_surface b.d3;
}

abbrev pub next_blocks : (scale : ℤ) (h : Strides) → Blocks → Blocks
next_blocks scale h b = paired (next_block scale) h b

-- The slice's row 0 on one axis, and on three: the walk's cell and remainder with the differences along u, and cubics along u
-- of the differences along t.
abbrev pub slice_line : Block → Line
slice_line b = record { walk = row_line b.value; d1 = row_of b.d1; d2 = row_of b.d2; d3 = row_of b.d3 }

abbrev pub slice_lines : Blocks → Lines
slice_lines b = mapped slice_line b
