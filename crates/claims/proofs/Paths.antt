-- Document 02, A.8 holds: laws of a curve's path. Then a curve of one step from either end, computed.
use mathlib.Core.Path.{◌≡◌, refl, ap, fun_ext}
use mathlib.Core.Logic.{◌⊎◌, inl, inr, ⊎_elim}
use mathlib.Core.List.{List, [], ◌∷◌, Memᴰ}
use Prim.Native.Nat.{ℕ, suc, ◌≤◌}
use native.Mathlib.Omega.{arith}
use lib.Dec.{eqb}
use lib.ListN.{get_or}
use Rattle.bezier.specs.Exact.{blend, scale, points as pointCount, value, no_index, index}
use Rattle.decide.specs.Some.{some_below, some_of}
use Rattle.decide.specs.Refusal.{first_that}
use Rattle.decide.proofs.Truth.{decided, equal}
use Rattle.rounding.specs.Nearest.{nearest}
use Rattle.neighbours.specs.Steps.{far_apart, some_sample, too_long, Neighbours, first, later}
use Rattle.cube.specs.Cube.{Axis, x_axis, y_axis, z_axis, Cell, some_axis, side_out, place}
use Rattle.cube.proofs.Places.{by_axis}
use Rattle.drawing.specs.declared.Choice.{Choice}
use Rattle.drawing.specs.Object.{Object, curve, offset, coordinate, exact, cell_of}
use Rattle.drawing.specs.Refusals.{count_out, coordinate_out, steps_too_long, order, draw_verdict, Drawable}
use Rattle.drawing.specs.Drawing.{row, rows, samples, written, marked, bytes, cells, CellOfSample, drawn_by}
use Rattle.drawing.proofs.Accepted.{check_accepted}
use Rattle.drawing.proofs.Cells.{cell_within}
use Rattle.path.specs.Path.{moved, move, moves, onward, path}
use Rattle.path.proofs.OfCurve as laws
use Rattle.flip.specs.Flip.{points_at, reversed}
use Rattle.claims.specs.Demand3.{NearSample, Inserted, SampleWithinOneAndAHalf, NearInserted}
use Rattle.claims.specs.Paths.{FaceToFace, Claim, FromEitherEnd}

-- Two cells are one cell, or not.
one_or_not : (c d : Cell) → (c ≡ d) ⊎ (¬ (c ≡ d))
one_or_not c d =
    ⊎_elim
    (λ x. ⊎_elim
    (λ y. ⊎_elim (λ z. inl (fun_ext (by_axis (λ a. c a ≡ d a) x y z))) (λ n. inr n) (along z_axis))
    (λ n. inr n) (along y_axis))
    (λ n. inr n) (along x_axis)
  where
    along : (a : Axis) → (c a ≡ d a) ⊎ (¬ (c ≡ d))
    along a =
        ⊎_elim (λ t. inl ((equal (c a) (d a)).0 t)) (λ f. inr (λ e. f ((equal (c a) (d a)).1 (ap (λ (b : Cell). b a) e))))
        (decided (eqb (c a) (d a)))

-- The cell of a sample is near it.
pub sample_near : {S : ℕ} {o : Object} → Drawable S o → {c : Cell} → CellOfSample o c → NearSample o c
sample_near d s =
    record { sample = s.sample; is_sample = s.is_sample; is_near = rw s.is_its_cell (cell_within d s.sample) }

module _ {S : ℕ} (n : ℕ) (points : List ℕ) (mark : ℕ) (choice : Choice) (d : Drawable S (curve n points mark choice)) where
  abbrev o : Object
  o = curve n points mark choice

  near_sample : (k : ℕ) → k ≤ n → (c : Cell) → c ≡ cell_of o (k ∷ []) → NearSample o c
  near_sample k h c e = sample_near d (record { sample = k ∷ []; is_sample = index h no_index; is_its_cell = e })

  -- A cell of the path is that of a sample, or is inserted on the way to the next.
  near : (c : Cell) → Memᴰ c (path (cells o)) → NearSample o c ⊎ NearInserted o c
  near c m =
      ⊎_elim
      (λ e. inl (near_sample 0 (omega arith) c e))
      (λ s. ⊎_elim
      (λ e. inl (near_sample (suc s.index) s.below c e))
      (λ other. inr (record {
        sample = s.index ∷ [];
        next = suc s.index ∷ [];
        inserted = record { are_neighbours = first s.below no_index; is_a_move = s.is_move; not_the_next = other };
        is_near = laws.move_near n points mark choice d s.index s.below s.is_move;
      }))
      (one_or_not c (cell_of o (suc s.index ∷ []))))
      (laws.on_path n points mark choice c m)

  pub face_to_face : FaceToFace S n points mark choice
  face_to_face = record {
    share_a_face = laws.share_face n points mark choice d;
    so_long = laws.path_length_lem n points mark choice;
    at_most = laws.path_at_most n points mark choice;
    every_sample = laws.sample_on_path n points mark choice d;
    in_the_cube = laws.path_inside n points mark choice d;
    near = near;
  }

  -- An inserted cell is on the path, and near the sample before it.
  move_on_path : {sample next : List ℕ} {c : Cell} → Neighbours (n ∷ []) sample next →
      Memᴰ c (moves (cell_of o sample) (cell_of o next)) → Memᴰ c (path (cells o))
  move_on_path (first h no_index) m = laws.move_on_path n points mark choice _ h m
  move_on_path {c = c} (later {i = i} {is = is} {js = js} _ beyond) m = elim beyond [ ]

  move_near : {sample next : List ℕ} {c : Cell} → Neighbours (n ∷ []) sample next →
      Memᴰ c (moves (cell_of o sample) (cell_of o next)) → SampleWithinOneAndAHalf o sample c
  move_near (first h no_index) m = laws.move_near n points mark choice d _ h m
  move_near {c = c} (later {i = i} {is = is} {js = js} _ beyond) m = elim beyond [ ]

  pub inserted_on_path : {sample next : List ℕ} {c : Cell} → Inserted o sample next c → Memᴰ c (path (cells o))
  inserted_on_path i = move_on_path i.are_neighbours i.is_a_move

  pub inserted_near : {sample next : List ℕ} {c : Cell} → Inserted o sample next c → SampleWithinOneAndAHalf o sample c
  inserted_near i = move_near i.are_neighbours i.is_a_move

pub claim : Claim
claim = record {
  face_to_face = λ S n points mark choice e.
      face_to_face n points mark choice ((check_accepted S (curve n points mark choice)).0 e);
}

-- The curve of one step and its flip, computed.
pub from_either_end : FromEitherEnd
unfolding blend scale pointCount value some_below some_of first_that nearest far_apart some_sample too_long
    some_axis side_out place offset coordinate exact cell_of count_out coordinate_out steps_too_long order draw_verdict row rows samples
    written marked bytes cells drawn_by moved move moves onward path points_at reversed
from_either_end = record {
  there = refl;
  back = refl;
  there_leaves = refl;
  back_leaves = refl;
  grids_differ = λ e. let second : ◌≡◌ {A = ℕ} 1 0 = ap (λ l. get_or l 1 0) e in omega arith;
}
