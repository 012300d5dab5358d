-- The strokes of a sheet are a list of calls that starts from an unmarked cube, so demand 3 speaks of them, and those of
-- a good sheet are accepted.
use mathlib.Core.Path.{◌≡◌, refl, ◌∙◌, subst}
use mathlib.Core.Logic.{inl, inr, ⊎_elim}
use mathlib.Core.List.{List, [], ◌∷◌, ◌++◌, map, map-append}
use Prim.Native.Nat.{ℕ}
use lib.ListN.{length, get_or, length-replicate, get_or-replicate}
use Rattle.cube.specs.Cube.{place, volume}
use Rattle.cube.proofs.Places.{place_below}
use Rattle.drawing.specs.Drawing.{drawn_by, in_turn}
use Rattle.sheet.specs.Sheet.{Stroke, good, judge}
use Rattle.sheet.specs.Printed.{cube_of}
use Rattle.sheet_cube.proofs.Judged.{passes, passes_draws}
use Rattle.sheet_cube.proofs.Drawing.{Each, each_one, good_strokes}
use Rattle.claims.specs.Demand3.{drawing_by, run, Accepted, MarkOfNearObject, Demand3}
use Rattle.claims.specs.Strokes.{unmarked, call_of, drawing, StrokesDrawn}
use Rattle.claims.proofs.Demand3.{claim}

-- A stroke of a sheet of side S is accepted.
abbrev Good : (S : ℕ) → Stroke → Type 0
Good S s = Accepted (volume S) (call_of S s)

pub strokes_good : (input : List ℕ) {S : ℕ} {strokes : List Stroke} → judge input ≡ good S strokes → Each (Good S) strokes
strokes_good input {S} e = good_strokes (Good S) S (λ k l a. passes_draws (passes l a) refl) input e

pub strokes_drawn : (S : ℕ) (strokes : List Stroke) → Each (Good S) strokes → StrokesDrawn S strokes
strokes_drawn S strokes all_good =
    let cube : length (unmarked S) ≡ volume S = length-replicate (volume S) 0 in
    let all : (l : List Stroke) → Demand3 S (unmarked S) (map (call_of S) l) =
    λ l. claim.demand_3 S (unmarked S) cube (map (call_of S) l) in
    record {
      each_cell = λ c inside.
          ⊎_elim (λ kept. inl (kept ∙ get_or-replicate (volume S) (place S c) 0 0 (place_below S c inside)))
          (λ m. inr (subst (λ len. MarkOfNearObject len (map (call_of S) strokes) c
          (get_or (drawing S strokes) (place S c) 0)) cube m))
          ((all strokes).each_cell c inside);
      each_stroke = λ before after s splits.
          let e : Good S s = each_one (Good S) before after s (subst (Each (Good S)) splits all_good) in (
            e,
            rw (map-append (call_of S) before (s ∷ []))
                ((all (before ++ s ∷ [])).each_object (map (call_of S) before) [] (call_of S s)
                (map-append (call_of S) before (s ∷ [])) (rw cube e)),
          );
    }

-- Calls made of strokes, drawn in turn, are the strokes drawn in turn.
turn_map : {A C : Type 0} (draw : C → List ℕ → List ℕ) (call : A → C) (l : List A) (grid : List ℕ) →
    in_turn (λ a. draw (call a)) l grid ≡ in_turn draw (map call l) grid
unfolding in_turn
turn_map draw call [] grid = refl
turn_map draw call (a ∷ l) grid = turn_map draw call l (draw (call a) grid)

-- The sheet's cube is the one that `StrokesDrawn` speaks of.
pub sheet_cube : (S : ℕ) (strokes : List Stroke) → cube_of S strokes ≡ drawing S strokes
unfolding cube_of run
sheet_cube S strokes = turn_map (λ call. drawn_by (drawing_by call)) (call_of S) strokes (unmarked S)
