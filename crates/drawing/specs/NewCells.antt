-- Document 02, A.10: how many cells a drawing turns from unmarked to marked.
use Rattle.std.specs.Prelude.{cond, ℕ, ◌+◌, ◌-◌, eqb}
use mathlib.Core.List.{List, [], ◌∷◌, Memᴰ}

-- The unmarked cells of a grid: bytes 0.
unfoldable pub unmarked_cells : (grid : List ℕ) → ℕ
unmarked_cells [] = 0
unmarked_cells (mark ∷ grid) = cond (eqb mark 0) 1 0 + unmarked_cells grid

-- The new cells of a drawing: the unmarked cells before minus those after.
unfoldable pub new_cells : (before after : List ℕ) → ℕ
new_cells before after = unmarked_cells before - unmarked_cells after

-- Those of calls in turn, added up: each call gets the grid as the last one left it.
unfoldable pub new_in_turn : {C : Type 0} (draw : C → List ℕ → List ℕ) → List C → List ℕ → ℕ
new_in_turn draw [] grid = 0
new_in_turn draw (call ∷ calls) grid = new_cells grid (draw call grid) + new_in_turn draw calls (draw call grid)

-- No element of the list stands in it twice.
abbrev pub Different : {A : Type 0} → List A → Type 0
Different [] = Unit
Different (a ∷ l) = (¬ Memᴰ a l) × Different l
