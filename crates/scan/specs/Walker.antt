-- The machine on three axes. What is said of an axis is said once, over the axis.
use Rattle.std.specs.Prelude.{◌≡◌, List, [], ◌∷◌, ◌++◌, ℕ, zero, suc, ◌+◌, ◌*◌, ◌≤◌, ◌<◌, ◌^◌, ℤ, pos, nat_abs, ◌+ℤ◌}
use Rattle.integers.specs.Magnitude.{Within}
use Rattle.cube.specs.Cube.{Axis, x_axis, y_axis, z_axis, Cell}
use Rattle.cubic.specs.declared.axis.Axis as machine
use Rattle.cubic.specs.Axis.{step_of}
use Rattle.cubic.specs.Room.{Steps}
use Rattle.scan.specs.declared.xyz.Xyz.{Xyz}

-- What is held on an axis.
abbrev pub on : {T : Type 0} → Xyz T → Axis → T
on p x_axis = p.x
on p y_axis = p.y
on p z_axis = p.z

-- The same of each, alone and with what another holds on that axis.
abbrev pub mapped : {T U : Type 0} → (T → U) → Xyz T → Xyz U
mapped f p = record { x = f p.x; y = f p.y; z = f p.z }

abbrev pub paired : {T U V : Type 0} → (T → U → V) → Xyz T → Xyz U → Xyz V
paired f p q = record { x = f p.x q.x; y = f p.y q.y; z = f p.z q.z }

abbrev pub Walker : Type 0
Walker = Xyz machine.Axis

abbrev pub Strides : Type 0
Strides = Xyz ℤ

abbrev pub axis_of : Walker → Axis → machine.Axis
axis_of w a = on w a

abbrev pub stride_of : Strides → Axis → ℤ
stride_of h a = on h a

-- A grid's strides are 1, S and S × S, so that a cell stands at byte x + S × y + S × S × z.
abbrev pub grid_strides : (S : ℕ) → Strides
grid_strides S = record { x = pos 1; y = pos S; z = pos (S * S) }

-- A listing's strides are 1.
abbrev pub list_strides : Strides
list_strides = record { x = pos 1; y = pos 1; z = pos 1 }

-- Room for a coordinate times the stride.
abbrev pub SmallStride : ℤ → Type 0
SmallStride h = Within (2 ^ 31) h

pub record SmallStrides (h : Strides) : Type 0 where
  pub on : (a : Axis) → SmallStride (stride_of h a)

-- There is room for a step on every axis.
pub record StepsAll (scale : ℤ) (h : Strides) (w : Walker) : Type 0 where
  pub on : (a : Axis) → Steps scale (stride_of h a) (axis_of w a)

-- A step on every axis.
abbrev pub step_all : (scale : ℤ) (h : Strides) → Walker → Walker
step_all scale h w = paired (step_of scale) h w

-- After i steps.
unfoldable pub after : (scale : ℤ) (h : Strides) (w : Walker) (i : ℕ) → Walker
after scale h w zero = w
after scale h w (suc i) = step_all scale h (after scale h w i)

-- Each position is a natural number, small enough to be summed up.
pub record HasPlace (w : Walker) : Type 0 where
  pub position : Axis → ℕ
  pub is : (a : Axis) → (axis_of w a).at ≡ pos (position a)
  pub small : (a : Axis) → position a < 2 ^ 60

-- The byte's place, the sum of the positions.
unfoldable pub place_of : Walker → ℕ
place_of w = nat_abs (w.x.at +ℤ w.y.at +ℤ w.z.at)

-- The cell's coordinates, where every stride is 1.
unfoldable pub cell_of_walker : Walker → Cell
cell_of_walker w a = nat_abs (axis_of w a).at

-- A cell's bytes in a list, x y z.
abbrev pub coordinates : Cell → List ℕ
coordinates c = c x_axis ∷ c y_axis ∷ c z_axis ∷ []

-- An integer that is a byte.
pub record IsByte (z : ℤ) : Type 0 where
  pub byte : ℕ
  pub is : z ≡ pos byte
  pub small : byte < 256

-- Each position is a byte.
abbrev pub ByteCell : Walker → Type 0
ByteCell w = (a : Axis) → IsByte (axis_of w a).at

-- The walkers of a row: the first, and those after each of n steps.
unfoldable pub walkers : (n : ℕ) (scale : ℤ) (h : Strides) (w : Walker) → List Walker
walkers zero scale h w = w ∷ []
walkers (suc i) scale h w = walkers i scale h w ++ after scale h w (suc i) ∷ []

-- There is room for n steps.
abbrev pub RowRoom : (n : ℕ) (scale : ℤ) (h : Strides) (w : Walker) → Type 0
RowRoom n scale h w = (i : ℕ) → i < n → StepsAll scale h (after scale h w i)

-- And the place of each walker of the row is a byte of the grid.
pub record OnGrid (n : ℕ) (scale : ℤ) (h : Strides) (w : Walker) (gridLength : ℕ) : Type 0 where
  pub steps : RowRoom n scale h w
  pub places : (i : ℕ) → i ≤ n → HasPlace (after scale h w i)
  pub bytes : (i : ℕ) → i ≤ n → place_of (after scale h w i) < gridLength

-- And the coordinates of each walker of the row are bytes, and the list has room for all.
pub record OnList (n : ℕ) (scale : ℤ) (h : Strides) (w : Walker) (listLength : ℕ) : Type 0 where
  pub steps : RowRoom n scale h w
  pub cells : (i : ℕ) → i ≤ n → ByteCell (after scale h w i)
  pub long : 3 * suc n ≤ listLength
