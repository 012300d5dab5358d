-- Document 02, A.9: the preview strip beside the main path, which keeps its limits. Accepted and refused calls alike, over and
-- under.
use Rattle.std.specs.Prelude.{◌≡◌, ◌↔◌, ◌⊎◌, List, [], ◌∷◌, ℕ, ◌≤◌, ◌<◌, length, get_or, replicate, Result}
use Rattle.decide.specs.declared.Refusal.{Refusal}
use Rattle.decide.specs.Refusal.{accepted, refused}
use Rattle.cube.specs.Cube.{volume}
use Rattle.drawing.specs.declared.Choice.TheVariants.{Over}
use Rattle.drawing.specs.Object.{Object, curve, patch}
use Rattle.drawing.specs.Refusals.{draw_verdict}
use Rattle.drawing.specs.Drawing.{drawing_of}
use Rattle.scan.specs.declared.answer.Drawn.{Drawn}
use Rattle.scan.specs.Answer.{Draws}
use Rattle.strip.specs.Strip.{strip_verdict, strip_drawing}
use Rattle.claims.specs.Known.{along_x}

-- Some step count of an object is above 64.
pub record ManySteps (o : Object) : Type 0 where
  pub number : ℕ
  pub is_one : number < length o.counts
  pub above : 64 < get_or o.counts number 0

module _ (S : ℕ) (o : Object) where
  -- Where 24 is answered: 11, 23, 21, 12 and 13 let the call pass, the last of them every count, and some count is above 64.
  pub record Refused24 (gridLength : ℕ) : Type 0 where
    pub side_least : 2 ≤ S
    pub side_most : S ≤ 17
    pub cube : gridLength ≡ volume S
    pub marks : 1 ≤ o.mark
    pub count_least : (k : ℕ) → k < length o.counts → 1 ≤ get_or o.counts k 0
    pub count_most : (k : ℕ) → k < length o.counts → get_or o.counts k 0 ≤ o.most
    pub many_steps : ManySteps o

  -- The refusals of the strip beside those of the main path, for a grid of some length.
  pub record BesideMain (gridLength : ℕ) : Type 0 where
    -- 23 is answered for a side of 18 to 64, whatever else there is.
    pub is_23 : (strip_verdict S gridLength o ≡ refused 23) ↔ ((18 ≤ S) × (S ≤ 64))
    pub is_24 : (strip_verdict S gridLength o ≡ refused 24) ↔ Refused24 gridLength
    -- Whatever the strip accepts, the main path accepts.
    pub accepts : strip_verdict S gridLength o ≡ accepted → draw_verdict S gridLength o ≡ accepted
    -- Whatever the main path refuses, the strip refuses, with the same number, 23 or 24.
    pub refuses : (k : ℕ) → draw_verdict S gridLength o ≡ refused k →
        (strip_verdict S gridLength o ≡ refused k) ⊎
        (strip_verdict S gridLength o ≡ refused 23) ⊎ (strip_verdict S gridLength o ≡ refused 24)
    -- What the main path accepts, the strip refuses exactly where the side is above 17 or some count above 64.
    pub refuses_more : draw_verdict S gridLength o ≡ accepted →
        (¬ (strip_verdict S gridLength o ≡ accepted)) ↔ ((17 < S) ⊎ ManySteps o)

  -- From the same grid, whatever the strip accepts gets the answer of the main path, new cells included, and leaves its grid.
  pub record AsMain (grid : List ℕ) : Type 0 where
    pub answer : {one other : List ℕ} {r s : Result Drawn Refusal} → strip_verdict S (length grid) o ≡ accepted →
        Draws (strip_drawing S o) grid one r → Draws (drawing_of S o) grid other s → r ≡ s
    pub grids : {one other : List ℕ} {r s : Result Drawn Refusal} → strip_verdict S (length grid) o ≡ accepted →
        Draws (strip_drawing S o) grid one r → Draws (drawing_of S o) grid other s → one ≡ other

-- For every side, every curve and every patch.
pub record Claim : Type 0 where
  pub beside_main : (S : ℕ) (o : Object) (gridLength : ℕ) → BesideMain S o gridLength
  pub as_main : (S : ℕ) (o : Object) (grid : List ℕ) → AsMain S o grid

-- At the limits: the curve along x through 0 0 0 1 and the patch through 0, each in the cube of its side.
abbrev one_cell : (n : ℕ) → Object
one_cell n = curve n (along_x (0 ∷ 0 ∷ 0 ∷ 1 ∷ [])) 1 Over

abbrev still : (n m : ℕ) → Object
still n m = patch n m (replicate 48 0) 1 Over

pub record AtTheLimits : Type 0 where
  -- Side 17 with 64 steps is taken; side 18 and 65 steps, which the main path accepts, are not.
  pub taken : strip_verdict 17 4913 (one_cell 64) ≡ accepted
  pub side_18 : strip_verdict 18 5832 (one_cell 64) ≡ refused 23
  pub side_18_main : draw_verdict 18 5832 (one_cell 64) ≡ accepted
  pub steps_65 : strip_verdict 17 4913 (one_cell 65) ≡ refused 24
  pub steps_65_main : draw_verdict 17 4913 (one_cell 65) ≡ accepted
  -- A side above 64 is refused with 11 and a count above 512 with 13, as on the main path.
  pub side_65 : strip_verdict 65 8 (one_cell 65) ≡ refused 11
  pub steps_513 : strip_verdict 17 4913 (one_cell 513) ≡ refused 13
  -- Of a patch either count is looked at, but only where 13 lets both pass.
  pub patch_m_65 : strip_verdict 17 4913 (still 1 65) ≡ refused 24
  pub patch_n_0 : strip_verdict 17 4913 (still 0 65) ≡ refused 13
