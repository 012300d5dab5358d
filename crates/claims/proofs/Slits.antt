-- Document 02, A.4 holds: a law of every object, and the patch is its instance.
use mathlib.Core.Path.{◌≡◌}
use mathlib.Core.List.{List}
use Prim.Native.Nat.{ℕ}
use Rattle.bezier.specs.Exact.{no_index, index}
use Rattle.decide.specs.Refusal.{accepted}
use Rattle.rounding.specs.Nearest.{NextTo}
use Rattle.neighbours.specs.Steps.{Neighbours, first, later}
use Rattle.cube.specs.Cube.{Axis}
use Rattle.drawing.specs.Object.{Object, patch, cell_of}
use Rattle.drawing.specs.Refusals.{check_verdict}
use Rattle.drawing.proofs.Accepted.{check_accepted}
use Rattle.drawing.proofs.Cells.{cells_next_to}
use Rattle.claims.specs.Slits.{Claim}

neighbours_next_to : (S : ℕ) (o : Object) → check_verdict S o ≡ accepted →
    {sample next : List ℕ} → Neighbours o.counts sample next → (a : Axis) → NextTo (cell_of o sample a) (cell_of o next a)
neighbours_next_to S o e n a = cells_next_to ((check_accepted S o).0 e) n a

pub claim : Claim
claim = record {
  any_object = neighbours_next_to;
  patch_along_t = λ S n m points mark choice e i j hi hj. neighbours_next_to S (patch n m points mark choice) e (first hi (index hj no_index));
  patch_along_u = λ S n m points mark choice e i j hi hj. neighbours_next_to S (patch n m points mark choice) e (later hi (first hj no_index));
}
