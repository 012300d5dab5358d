-- Document 02, A.4: "in an accepted patch the cells of any two neighbouring samples, along t or along u and in every row,
-- differ by at most one on each axis". A slit is two neighbours whose cells do not, so that a cell lies between them.
use Rattle.std.specs.Prelude.{◌≡◌, List, [], ◌∷◌, ℕ, suc, ◌≤◌, ◌<◌}
use Rattle.decide.specs.Refusal.{accepted}
use Rattle.rounding.specs.Nearest.{NextTo}
use Rattle.neighbours.specs.Steps.{Neighbours}
use Rattle.cube.specs.Cube.{Axis}
use Rattle.drawing.specs.declared.Choice.{Choice}
use Rattle.drawing.specs.Object.{Object, patch, cell_of}
use Rattle.drawing.specs.Refusals.{check_verdict}

-- Accepted: none of 11, 13, 14 and 15 applies, as of every object that is drawn or listed.
pub record Claim : Type 0 where
  -- An object in any number of parameters: neighbours along whichever parameter, everywhere.
  pub any_object : (S : ℕ) (o : Object) → check_verdict S o ≡ accepted →
      {sample next : List ℕ} → Neighbours o.counts sample next → (a : Axis) → NextTo (cell_of o sample a) (cell_of o next a)
  -- A patch: neighbours along t, in every row.
  pub patch_along_t : (S n m : ℕ) (points : List ℕ) (mark : ℕ) (choice : Choice) →
      let o : Object = patch n m points mark choice in
      check_verdict S o ≡ accepted → (i j : ℕ) → i < n → j ≤ m →
      (a : Axis) → NextTo (cell_of o (i ∷ j ∷ []) a) (cell_of o (suc i ∷ j ∷ []) a)
  -- A patch: neighbours along u, at every index of t.
  pub patch_along_u : (S n m : ℕ) (points : List ℕ) (mark : ℕ) (choice : Choice) →
      let o : Object = patch n m points mark choice in
      check_verdict S o ≡ accepted → (i j : ℕ) → i ≤ n → j < m →
      (a : Axis) → NextTo (cell_of o (i ∷ j ∷ []) a) (cell_of o (i ∷ suc j ∷ []) a)
