-- Walkers follow samples. A walker that stands at the first of samples in turn, each a neighbour of the last, stands at
-- sample i after i steps: its positions are those of the sample's cell, and there is room for each step.
use mathlib.Core.Path.{◌≡◌, refl, sym, ◌∙◌, ap, ap₂, fun_ext}
use mathlib.Core.List.{List, [], ◌∷◌, ◌++◌, map, map-append}
use Prim.Native.Nat.{ℕ, zero, suc, ◌*◌, ◌≤◌, ◌<◌, ◌^◌, zero-le}
use native.Mathlib.Nat.{le_trans, mul-le-mul}
use native.Mathlib.Omega.{arith}
use lib.Dec.{lit≤}
use lib.IntN.{ℤ, pos, nat_abs, ◌*ℤ◌}
use Rattle.integers.proofs.Magnitude.{within_pos}
use Rattle.bezier.specs.Exact.{Sample, Corner}
use Rattle.bezier.proofs.Ends.{corner_value}
use Rattle.neighbours.specs.Steps.{Neighbours}
use Rattle.cube.specs.Cube.{Axis, x_axis, y_axis, z_axis, volume, place}
use Rattle.cube.proofs.Places.{place_below}
use Rattle.drawing.specs.Object.{Object, coordinate, scale_of, exact, cell_of}
use Rattle.drawing.specs.Refusals.{Drawable}
use Rattle.drawing.specs.Drawing.{row}
use Rattle.drawing.proofs.Cells.{cell_owns, cell_inside, corner_cell, neighbours_near}
use Rattle.cubic.specs.Differences.{differences_at}
use Rattle.cubic.specs.declared.axis.Axis as machine
use Rattle.cubic.specs.Axis.{start_of, step_of}
use Rattle.cubic.specs.Room.{Room, Steps}
use Rattle.cubic.specs.Tracks.{Doubles, Tracks}
use Rattle.cubic.proofs.Tracks.{start_tracks, step_tracks, remainder_owns}
use Rattle.cubic.proofs.Levels.{tracks_steps}
use Rattle.scan.specs.Walker.{Walker, Strides, axis_of, stride_of, grid_strides, list_strides, SmallStrides, StepsAll, step_all, after, HasPlace, place_of}
use Rattle.scan.specs.Walker.{cell_of_walker, walkers, OnGrid, OnList}
use Rattle.scan.proofs.Natural.{square_at_most}

-- A walk of n steps through the samples σ 0 to σ n of a drawable object, each a neighbour of the last: a curve, a row, the
-- walk along u from row to row, or the walk along v from slice to slice. P doubles the exact values and has room at every sample, and strides are up to 4096.
pub record Walk (S : ℕ) (o : Object) (h : Strides) (n : ℕ) (σ : ℕ → List ℕ) (P : Axis → ℕ → ℤ) : Type 0 where
  pub drawable : Drawable S o
  pub scale_small : scale_of o ≤ 2 ^ 60
  pub stride : Axis → ℕ
  pub stride_is : (a : Axis) → stride_of h a ≡ pos (stride a)
  pub stride_small : (a : Axis) → stride a ≤ 4096
  pub sample : (i : ℕ) → i ≤ n → Sample o.counts (σ i)
  pub neighbours : (i : ℕ) → i < n → Neighbours o.counts (σ i) (σ (suc i))
  pub doubles : (a : Axis) → Doubles n (λ i. exact o a (σ i)) (P a)
  pub room : (a : Axis) (i : ℕ) → i ≤ n → Room (differences_at (P a) i)

-- The walker stands at sample σ i.
pub record At (o : Object) (h : Strides) (σ : ℕ → List ℕ) (P : Axis → ℕ → ℤ) (i : ℕ) (w : Walker) : Type 0 where
  pub on : (a : Axis) → Tracks (scale_of o) (stride_of h a) (P a) i (cell_of o (σ i) a) (axis_of w a)

-- The samples of a row: the first index runs, the later ones are fixed.
abbrev pub along : List ℕ → ℕ → List ℕ
along is i = i ∷ is

-- A start in the cell of point 0, where sample σ 0 is the corner there.
pub corner_tracks : {S : ℕ} {o : Object} {n : ℕ} {P : ℕ → ℤ} {h : ℤ} (σ : ℕ → List ℕ) → Drawable S o → (a : Axis) →
    Corner o.counts (σ 0) 0 → Doubles n (λ i. exact o a (σ i)) P →
    Tracks (scale_of o) h P 0 (cell_of o (σ 0) a) (start_of h (pos (coordinate o.points a 0)) (differences_at P 0))
unfolding exact
corner_tracks {o = o} σ d a corner doubles =
    rw (corner_cell d corner a)
    (start_tracks (coordinate o.points a 0) doubles (corner_value (coordinate o.points a) corner) refl)

-- A grid's strides.
unfoldable pub grid_stride : ℕ → Axis → ℕ
grid_stride S x_axis = 1
grid_stride S y_axis = S
grid_stride S z_axis = S * S

pub grid_stride_is : (S : ℕ) (a : Axis) → stride_of (grid_strides S) a ≡ pos (grid_stride S a)
unfolding grid_stride
grid_stride_is S x_axis = refl
grid_stride_is S y_axis = refl
grid_stride_is S z_axis = refl

pub grid_stride_small : {S : ℕ} → S ≤ 64 → (a : Axis) → grid_stride S a ≤ 4096
unfolding grid_stride
grid_stride_small h x_axis = lit≤ tt
grid_stride_small h y_axis = le_trans h (lit≤ tt)
grid_stride_small h z_axis = square_at_most h

-- A walk in the grid, from what is its own: samples, neighbours, doubled values and their room.
pub grid_walk : {S : ℕ} {o : Object} {n : ℕ} {σ : ℕ → List ℕ} {P : Axis → ℕ → ℤ} → Drawable S o → scale_of o ≤ 2 ^ 60 →
    ((i : ℕ) → i ≤ n → Sample o.counts (σ i)) → ((i : ℕ) → i < n → Neighbours o.counts (σ i) (σ (suc i))) →
    ((a : Axis) → Doubles n (λ i. exact o a (σ i)) (P a)) → ((a : Axis) (i : ℕ) → i ≤ n → Room (differences_at (P a) i)) →
    Walk S o (grid_strides S) n σ P
grid_walk {S} drawable small sample neighbours doubles room = record {
  drawable = drawable;
  scale_small = small;
  stride = grid_stride S;
  stride_is = grid_stride_is S;
  stride_small = grid_stride_small drawable.side_most;
  sample = sample;
  neighbours = neighbours;
  doubles = doubles;
  room = room;
}

-- A listing's strides.
pub list_stride_is : (a : Axis) → stride_of list_strides a ≡ pos 1
list_stride_is x_axis = refl
list_stride_is y_axis = refl
list_stride_is z_axis = refl

-- Both are small.
small_of : {h : Strides} {stride : Axis → ℕ} → ((a : Axis) → stride_of h a ≡ pos (stride a)) →
    ((a : Axis) → stride a ≤ 4096) → SmallStrides h
small_of is small = record { on = λ a. rw (is a) (within_pos (le_trans (small a) (lit≤ tt))) }

pub grid_small : {S : ℕ} → S ≤ 64 → SmallStrides (grid_strides S)
grid_small {S} h = small_of (grid_stride_is S) (grid_stride_small h)

pub list_small : SmallStrides list_strides
list_small = small_of {stride = λ a. 1} list_stride_is (λ a. lit≤ tt)

-- A step on every axis is a step on each.
step_on : (scale : ℤ) (h : Strides) (w : Walker) (a : Axis) →
    axis_of (step_all scale h w) a ≡ step_of scale (stride_of h a) (axis_of w a)
step_on scale h w x_axis = refl
step_on scale h w y_axis = refl
step_on scale h w z_axis = refl

module _ {S : ℕ} {o : Object} {h : Strides} {n : ℕ} {σ : ℕ → List ℕ} {P : Axis → ℕ → ℤ} (r : Walk S o h n σ P) where
  abbrev N : ℤ
  N = pos (scale_of o)

  -- An axis of the machine is at sample i.
  abbrev pub OnAxis : (a : Axis) (i : ℕ) → machine.Axis → Type 0
  OnAxis a i = Tracks (scale_of o) (stride_of h a) (P a) i (cell_of o (σ i) a)

  -- A step leads to the next sample, on each axis.
  pub axis_next : {i : ℕ} (a : Axis) {m : machine.Axis} → i < n → OnAxis a i m → OnAxis a (suc i) (step_of N (stride_of h a) m)
  axis_next {i} a l t =
      step_tracks (r.doubles a) l (cell_owns r.drawable (σ i) a)
      (neighbours_near r.drawable (r.neighbours i l) a) (cell_owns r.drawable (σ (suc i)) a) t

  pub at_next : {i : ℕ} {w : Walker} → i < n → At o h σ P i w → At o h σ P (suc i) (step_all N h w)
  at_next {i} {w} l t = record { on = λ a. rw (step_on N h w a) (axis_next a l (t.on a)) }

  -- After i steps the walker stands at sample i.
  pub at_after : {w : Walker} → At o h σ P 0 w → (i : ℕ) → i ≤ n → At o h σ P i (after N h w i)
  unfolding after
  at_after t zero l = t
  at_after t (suc i) l = at_next l (at_after t i (omega arith))

  module _ {i : ℕ} (a : Axis) {m : machine.Axis} (l : i ≤ n) (t : OnAxis a i m) where
    -- The coordinate is below 64.
    pub below : cell_of o (σ i) a ≤ 63
    below = omega (arith, cell_inside r.drawable (r.sample i l) a, r.drawable.side_most)

    -- There is room for a step.
    pub axis_steps : Steps N (stride_of h a) m
    axis_steps =
        rw (r.stride_is a)
        (tracks_steps (P a) i (rw (r.stride_is a) at t) (r.room a i l)
        ((remainder_owns t (exact o a (σ i)) ((r.doubles a).agrees i l)).1 (cell_owns r.drawable (σ i) a))
        r.scale_small (r.stride_small a) below)

    -- The position is the coordinate times the stride.
    pub position : m.at ≡ pos (r.stride a * cell_of o (σ i) a)
    position = t.place ∙ ap (λ z. z *ℤ pos (cell_of o (σ i) a)) (r.stride_is a)

  module _ {i : ℕ} {w : Walker} (l : i ≤ n) (t : At o h σ P i w) where
    pub at_steps : StepsAll N h w
    at_steps = record { on = λ a. axis_steps a l (t.on a) }

    at_place : HasPlace w
    at_place = record {
      position = λ a. r.stride a * cell_of o (σ i) a;
      is = λ a. position a l (t.on a);
      small = λ a. omega (arith, mul-le-mul (r.stride_small a) (below a l (t.on a)));
    }

-- What is read of each walker of a row is what is read of its sample.
pub row_map : {A : Type 0} (F : Walker → A) (G : List ℕ → A) (scale : ℤ) (h : Strides) (w : Walker) (is : List ℕ) (n : ℕ) →
    ((i : ℕ) → i ≤ n → F (after scale h w i) ≡ G (i ∷ is)) → map F (walkers n scale h w) ≡ map G (row n is)
unfolding walkers row after
row_map F G scale h w is zero e = ap (λ a. a ∷ []) (e zero zero-le)
row_map F G scale h w is (suc n) e =
    map-append F (walkers n scale h w) _ ∙
    ap₂ (λ l a. l ++ a ∷ []) (row_map F G scale h w is n (λ i l. e i (omega arith))) (e (suc n) (omega arith)) ∙
    sym (map-append G (row n is) _)

module _ {S : ℕ} {o : Object} {n : ℕ} {is : List ℕ} {P : Axis → ℕ → ℤ} {w : Walker} where
  -- In a grid the walker's place is that of the sample's cell.
  module _ (r : Walk S o (grid_strides S) n (along is) P) (t : At o (grid_strides S) (along is) P 0 w) where
    pub grid_place : (i : ℕ) → i ≤ n → place_of (after (N r) (grid_strides S) w i) ≡ place S (cell_of o (i ∷ is))
    unfolding place_of place
    grid_place i l =
        let u = at_after r t i l in
        rw ((u.on x_axis).place, (u.on y_axis).place, (u.on z_axis).place) (omega arith)

    pub row_on_grid : OnGrid n (N r) (grid_strides S) w (volume S)
    row_on_grid = record {
      steps = λ i l. at_steps r (omega arith) (at_after r t i (omega arith));
      places = λ i l. at_place r l (at_after r t i l);
      bytes = λ i l. rw (grid_place i l) (place_below S _ (cell_inside r.drawable (r.sample i l)));
    }

    pub row_places : map place_of (walkers n (N r) (grid_strides S) w) ≡ map (λ s. place S (cell_of o s)) (row n is)
    row_places = row_map place_of (λ s. place S (cell_of o s)) (N r) (grid_strides S) w is n grid_place

  -- In a listing the walker's cell is the sample's.
  module _ (r : Walk S o list_strides n (along is) P) (t : At o list_strides (along is) P 0 w) where
    list_position : (i : ℕ) → i ≤ n → (a : Axis) → (axis_of (after (N r) list_strides w i) a).at ≡ pos (cell_of o (i ∷ is) a)
    list_position i l a =
        ((at_after r t i l).on a).place ∙ ap (λ z. z *ℤ pos (cell_of o (i ∷ is) a)) (list_stride_is a) ∙ ap pos (omega arith)

    pub row_on_list : {len : ℕ} → 3 * suc n ≤ len → OnList n (N r) list_strides w len
    row_on_list room = record {
      steps = λ i l. at_steps r (omega arith) (at_after r t i (omega arith));
      cells = λ i l a. record {
        byte = cell_of o (i ∷ is) a;
        is = list_position i l a;
        small = omega (arith, below r a l ((at_after r t i l).on a));
      };
      long = room;
    }

    pub row_cells : map cell_of_walker (walkers n (N r) list_strides w) ≡ map (cell_of o) (row n is)
    unfolding cell_of_walker
    row_cells =
        row_map cell_of_walker (cell_of o) (N r) list_strides w is n (λ i l. fun_ext (λ a. ap nat_abs (list_position i l a)))
