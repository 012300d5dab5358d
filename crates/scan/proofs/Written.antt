-- One cell more: what its mark adds to the count, and what its bytes add to a list.
use mathlib.Core.Path.{◌≡◌, refl, ap, ◌∙◌}
use mathlib.Core.Bool.{Bool, true, false, cond}
use mathlib.Core.List.{List, [], ◌∷◌, ◌++◌, append_assoc}
use Prim.Native.Nat.{ℕ, ◌+◌, ◌≤◌, ◌<◌}
use native.Mathlib.Omega.{arith}
use lib.Dec.{eqb}
use lib.ListN.{length, get_or, drop, length-append, length-drop}
use lib.Seq.{sets, sets-eq, take_at, drop-append-add, drop-drop}
use mir.Val.{bool_byte}
use Rattle.cube.specs.Cube.{Cell}
use Rattle.drawing.specs.declared.Choice.{Choice}
use Rattle.drawing.specs.Drawing.{written, bytes}
use Rattle.drawing.specs.NewCells.{unmarked_cells}
use Rattle.drawing.proofs.Marked.{marked_at, written_marked}
use Rattle.drawing.proofs.NewCells.{unmarked_set}
use Rattle.scan.specs.Walker.{coordinates}

-- Whether a cell was unmarked, as the number that is added.
pub counted : (b : Bool) → (bool_byte b ≡ cond b 1 0) × (bool_byte b ≤ 1)
counted true = (refl, omega arith)
counted false = (refl, omega arith)

-- A mark at a place, over or under, and what it adds to the count.
module _ (mark : ℕ) (choice : Choice) (h : 1 ≤ mark) (grid : List ℕ) (p : ℕ) (l : p < length grid) where
  pub one_more : (b : Bool) → b ≡ eqb (get_or grid p 0) 0 →
      bool_byte b + unmarked_cells (marked_at choice mark grid p) ≡ unmarked_cells grid
  one_more b e =
      ap (◌+ unmarked_cells (marked_at choice mark grid p)) ((counted b).0 ∙ ap (λ t. cond t 1 0) e) ∙
      unmarked_set (written choice mark (get_or grid p 0)) (written_marked choice (get_or grid p 0) h) grid p l

-- One cell more.
pub bytes_more : (cs : List Cell) (c : Cell) → bytes (cs ++ c ∷ []) ≡ bytes cs ++ coordinates c
unfolding bytes
bytes_more [] c = refl
bytes_more (d ∷ cs) c = ap (λ r. coordinates d ++ r) (bytes_more cs c)

-- A cell's bytes, written just after the front of a list.
pub written_after : (front vs g : List ℕ) (k : ℕ) → length front ≡ k → k + length vs ≤ length g →
    sets (front ++ drop k g) k vs ≡ front ++ (vs ++ drop (k + length vs) g)
written_after front vs g k e h =
    sets-eq vs (front ++ drop k g) k (rw (length-append, length-drop, e) (omega arith)) ∙
    rw (take_at front (drop k g) k e, ← e, drop-append-add, drop-drop) (append_assoc front vs _)
