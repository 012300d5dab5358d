-- Places of cells: each cell of a cube stands at a byte of its grid, and different cells at different bytes. The
-- three coordinates are the place's digits to the base S.
use mathlib.Core.Path.{◌≡◌, sym, ◌∙◌}
use Prim.Native.Nat.{ℕ, zero, suc, ◌+◌, ◌*◌, ◌/◌, ◌%◌, ◌≤◌, ◌<◌}
use native.Mathlib.Nat.{le_of_lt, lt_of_le_of_lt, mul-le-mul, mul-le-mul_left, mul-le-mul_right}
use native.Mathlib.Nat.{mul-lt-mul_of_pos_left, mul-pos, mod-lt, mod-eq_of_lt, div-eq_of_lt, mod-add-div}
use native.Mathlib.Nat.{add-mul-mod_self_left, add-mul-div_left, div-div-eq-div-mul}
use native.Mathlib.Omega.{arith}
use Rattle.cube.specs.Cube.{Axis, x_axis, y_axis, z_axis, Cell, Inside, volume, place, cell_at}

-- What holds on x, y and z holds on every axis.
pub by_axis : (P : Axis → Type 0) → P x_axis → P y_axis → P z_axis → (a : Axis) → P a
by_axis P x y z x_axis = x
by_axis P x y z y_axis = y
by_axis P x y z z_axis = z

-- A digit a to the base S, and p above it.
digit_below : {S a p q : ℕ} → a < S → p < q → a + S * p < S * q
digit_below {S} h l = omega (arith, mul-le-mul_left S l)

digit_not_less : (S a b p q : ℕ) → a < S → b < S → a + S * p ≡ b + S * q → ¬ (p < q)
digit_not_less S a b p q ha hb e l = omega (arith, mul-le-mul_left S l)

-- Equal numbers have equal digits.
digit_same : (S a b p q : ℕ) → a < S → b < S → a + S * p ≡ b + S * q → (a ≡ b) × (p ≡ q)
digit_same S a b p q ha hb e =
    let up : ¬ (p < q) = digit_not_less S a b p q ha hb e in
    let down : ¬ (q < p) = digit_not_less S b a q p hb ha (sym e) in
    let same : p ≡ q = omega arith in
    let e' : a + S * q ≡ b + S * q = rw same at e in
    (omega arith, same)

digits : (S : ℕ) (c : Cell) → place S c ≡ c x_axis + S * (c y_axis + S * c z_axis)
unfolding place
digits S c = omega arith

-- The place of a cell of the cube is a byte of the grid.
pub place_below : (S : ℕ) (c : Cell) → Inside S c → place S c < volume S
place_below S c h =
    let yz : c y_axis + S * c z_axis < S * S = digit_below (h y_axis) (h z_axis) in
    let all : c x_axis + S * (c y_axis + S * c z_axis) < S * (S * S) = digit_below (h x_axis) yz in
    rw digits (omega arith)

-- Cells at one place are one cell.
pub place_injective : (S : ℕ) (c d : Cell) → Inside S c → Inside S d → place S c ≡ place S d → (a : Axis) → c a ≡ d a
place_injective S c d h k e a =
    let e' : c x_axis + S * (c y_axis + S * c z_axis) ≡ d x_axis + S * (d y_axis + S * d z_axis) =
    rw (digits S c, digits S d) at e in
    let x = digit_same S (c x_axis) (d x_axis) _ _ (h x_axis) (k x_axis) e' in
    let yz = digit_same S (c y_axis) (d y_axis) _ _ (h y_axis) (k y_axis) x.1 in
    by_axis (λ b. c b ≡ d b) x.0 yz.0 yz.1 a

-- The digits of the byte x + S × y + S × S × z.
module _ (S p x y z : ℕ) (x_in : x < S) (y_in : y < S) (at : p ≡ x + S * (y + S * z)) where
  pub x_of : p % S ≡ x
  x_of = rw (at, add-mul-mod_self_left) (mod-eq_of_lt x_in)

  rest_of : p / S ≡ y + S * z
  rest_of = let more : 0 < S = omega arith in rw (at, add-mul-div_left x (y + S * z) more, div-eq_of_lt x_in) (omega arith)

  pub y_of : p / S % S ≡ y
  y_of = rw (rest_of, add-mul-mod_self_left) (mod-eq_of_lt y_in)

  pub z_of : p / (S * S) ≡ z
  z_of =
      let more : 0 < S = omega arith in
      rw (← div-div-eq-div-mul, rest_of, add-mul-div_left y z more, div-eq_of_lt y_in) (omega arith)

-- Every byte has coordinates.
pub coordinates_of : (S p : ℕ) → p ≡ p % S + S * (p / S % S + S * (p / S / S))
coordinates_of S p = rw (mod-add-div (p / S) S, mod-add-div p S)

-- In a cube z is below the side.
pub z_below : (S p x y z : ℕ) → p ≡ x + S * (y + S * z) → p < S * S * S → z < S
z_below S p x y z at inside = let g : ¬ (S ≤ z) = λ h. omega (arith, mul-le-mul_left (S * S) h) in omega arith

-- A cell stands at its place, and at a place stands its cell.
pub cell_at_place : (S : ℕ) (c : Cell) → Inside S c → (a : Axis) → cell_at S (place S c) a ≡ c a
cell_at_place S c h a =
    let p = place S c in
    let at : p ≡ c x_axis + S * (c y_axis + S * c z_axis) = digits S c in
    by_axis (λ b. cell_at S p b ≡ c b) (x_of S p _ _ (c z_axis) (h x_axis) (h y_axis) at)
    (y_of S p _ _ (c z_axis) (h x_axis) (h y_axis) at) (z_of S p _ _ (c z_axis) (h x_axis) (h y_axis) at) a

pub place_of_cell : (S p : ℕ) → place S (cell_at S p) ≡ p
place_of_cell S p =
    digits S (cell_at S p) ∙ rw (← div-div-eq-div-mul p S S) (sym (coordinates_of S p))

-- The cell at a byte of the grid is a cell of the cube.
pub cell_at_inside : (S p : ℕ) → p < volume S → Inside S (cell_at S p)
cell_at_inside S p h a =
    let side : 0 < S = positive S h in
    by_axis (λ b. cell_at S p b < S) (mod-lt p side) (mod-lt (p / S) side)
    (rw (← div-div-eq-div-mul p S S) (z_below S p (p % S) (p / S % S) (p / S / S) (coordinates_of S p) h)) a
  where
    positive : (S : ℕ) → p < volume S → 0 < S
    positive zero l = absurd (omega arith)
    positive (suc R) l = omega arith

volume_grows : (S R : ℕ) → S < R → volume S < volume R
volume_grows S R h =
    let square : S * S ≤ R * R = mul-le-mul (le_of_lt h) (le_of_lt h) in
    let cube : S * S * S ≤ R * R * S = mul-le-mul_right S square in
    lt_of_le_of_lt cube (mul-lt-mul_of_pos_left h (mul-pos (pos_of_lt h) (pos_of_lt h)))
  where
    pos_of_lt : {a b : ℕ} → a < b → 0 < b
    pos_of_lt l = omega arith

-- A grid is the cube of one side only.
pub volume_injective : (S R : ℕ) → volume S ≡ volume R → S ≡ R
volume_injective S R e =
    let up : ¬ (S < R) = λ h. omega (arith, volume_grows S R h) in
    let down : ¬ (R < S) = λ h. omega (arith, volume_grows R S h) in
    omega arith
