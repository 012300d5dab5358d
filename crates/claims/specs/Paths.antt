-- Document 02, A.8: "neighbouring cells share a face", of every curve that a check accepts.
use Rattle.std.specs.Prelude.{◌≡◌, ◌⊎◌, ℕ, suc, ◌+◌, ◌*◌, ◌≤◌, replicate}
use mathlib.Core.List.{List, [], ◌∷◌, ◌++◌, Memᴰ}
use Rattle.decide.specs.Refusal.{accepted}
use Rattle.cube.specs.Cube.{Cell, Inside}
use Rattle.drawing.specs.declared.Choice.{Choice}
use Rattle.drawing.specs.declared.Choice.TheVariants.{Over}
use Rattle.drawing.specs.Object.{Object, curve, cell_of}
use Rattle.drawing.specs.Refusals.{check_verdict}
use Rattle.drawing.specs.Drawing.{bytes, cells, drawn_by}
use Rattle.path.specs.Path.{path, ShareFace, axis_moves, over_steps, path_length, path_drawing}
use Rattle.flip.specs.Flip.{reversed}
use Rattle.claims.specs.Demand3.{NearSample, NearInserted}

module _ (S n : ℕ) (points : List ℕ) (mark : ℕ) (choice : Choice) where
  abbrev o : Object
  o = curve n points mark choice

  -- The path of a curve: neighbouring cells share a face. The number of its cells is 1 plus the sum over all steps of the axis
  -- moves, and at most 3 × n + 1. It goes through the cell of every sample and stays in the cube. Each of its cells is within
  -- half a cell of a sample, or an inserted one within one and a half of the sample before it.
  pub record FaceToFace : Type 0 where
    pub share_a_face : (before after : List Cell) (c d : Cell) → path (cells o) ≡ before ++ c ∷ d ∷ after → ShareFace c d
    pub so_long : path_length o ≡ suc (over_steps axis_moves (cells o))
    pub at_most : path_length o ≤ 3 * n + 1
    pub every_sample : (k : ℕ) → k ≤ n → Memᴰ (cell_of o (k ∷ [])) (path (cells o))
    pub in_the_cube : (c : Cell) → Memᴰ c (path (cells o)) → Inside S c
    pub near : (c : Cell) → Memᴰ c (path (cells o)) → NearSample o c ⊎ NearInserted o c

pub record Claim : Type 0 where
  pub face_to_face : (S n : ℕ) (points : List ℕ) (mark : ℕ) (choice : Choice) →
      check_verdict S (curve n points mark choice) ≡ accepted → FaceToFace S n points mark choice

-- The points (0, 0, 0) (0, 0, 0) (1, 1, 0) (1, 1, 0).
abbrev diagonal : List ℕ
diagonal = 0 ∷ 0 ∷ 0 ∷ 0 ∷ 0 ∷ 0 ∷ 1 ∷ 1 ∷ 0 ∷ 1 ∷ 1 ∷ 0 ∷ []

-- The curve of four points in one step.
abbrev one_step : (points : List ℕ) → Object
one_step points = curve 1 points 1 Over

-- What its drawing leaves of an unmarked cube of side 2.
abbrev left_by : (points : List ℕ) → List ℕ
left_by points = drawn_by (path_drawing 2 (one_step points)) (replicate 8 0)

-- The flip rule does not speak of paths: x moves first from either end, so that this curve and its flip insert different cells
-- and leave different grids.
pub record FromEitherEnd : Type 0 where
  pub there : bytes (path (cells (one_step diagonal))) ≡ 0 ∷ 0 ∷ 0 ∷ 1 ∷ 0 ∷ 0 ∷ 1 ∷ 1 ∷ 0 ∷ []
  pub back : bytes (path (cells (one_step (reversed diagonal)))) ≡ 1 ∷ 1 ∷ 0 ∷ 0 ∷ 1 ∷ 0 ∷ 0 ∷ 0 ∷ 0 ∷ []
  pub there_leaves : left_by diagonal ≡ 1 ∷ 1 ∷ 0 ∷ 1 ∷ replicate 4 0
  pub back_leaves : left_by (reversed diagonal) ≡ 1 ∷ 0 ∷ 1 ∷ 1 ∷ replicate 4 0
  pub grids_differ : ¬ (left_by diagonal ≡ left_by (reversed diagonal))
