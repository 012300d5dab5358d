-- Document 01, "Samples to check by": K1 to K12 as one list. One axis is given, here x; the others are 0, and the
-- side is 8.
use Rattle.std.specs.Prelude.{Bool, true, false, ◌&&◌, List, [], ◌∷◌, map, ℕ, ◌+◌, ◌-◌, eqb}
use Rattle.decide.specs.Same.{same_bytes}
use Rattle.decide.specs.Refusal.{Verdict, accepted, refused}
use Rattle.cube.specs.Cube.{x_axis, volume}
use Rattle.drawing.specs.declared.Choice.TheVariants.{Over}
use Rattle.drawing.specs.Object.{Object, curve, patch, scale_of, exact, cell_of}
use Rattle.drawing.specs.Refusals.{draw_verdict}
use Rattle.drawing.specs.Drawing.{row, bytes}

-- What document 01 says of a curve, or of a row of a patch along t: it is accepted and its cells are these; it is
-- accepted; it is refused with this number; its last step is this numerator over this denominator.
pub data Says : Type 0 where
  cells : List ℕ → Says
  accepts : Says
  refuses : ℕ → Says
  last_step : ℕ → ℕ → Says

-- A curve by its step count and the x of its points, or row j of a patch by its step counts and the x of its points.
pub data Known : Type 0 where
  along_curve : (n : ℕ) (xs : List ℕ) → Says → Known
  patch_row : (n m : ℕ) (xs : List ℕ) (j : ℕ) → Says → Known

-- K12's patch: x of g(i, j) = i + j.
abbrev pub sums : List ℕ
sums = 0 ∷ 1 ∷ 2 ∷ 3 ∷ 1 ∷ 2 ∷ 3 ∷ 4 ∷ 2 ∷ 3 ∷ 4 ∷ 5 ∷ 3 ∷ 4 ∷ 5 ∷ 6 ∷ []

abbrev pub known : List Known
known =
    -- K1
    along_curve 3 (0 ∷ 1 ∷ 2 ∷ 3 ∷ []) (cells (0 ∷ 1 ∷ 2 ∷ 3 ∷ [])) ∷
    -- K2
    along_curve 2 (0 ∷ 1 ∷ 2 ∷ 3 ∷ []) (refuses 15) ∷
    -- K3
    along_curve 6 (0 ∷ 1 ∷ 2 ∷ 3 ∷ []) (cells (0 ∷ 0 ∷ 1 ∷ 1 ∷ 2 ∷ 2 ∷ 3 ∷ [])) ∷
    -- K4, with the cells of document 02's A.3
    along_curve 6 (3 ∷ 2 ∷ 1 ∷ 0 ∷ []) (cells (3 ∷ 2 ∷ 2 ∷ 1 ∷ 1 ∷ 0 ∷ 0 ∷ [])) ∷
    -- K5
    along_curve 1 (0 ∷ 0 ∷ 0 ∷ 1 ∷ []) (cells (0 ∷ 1 ∷ [])) ∷
    -- K6
    along_curve 1 (0 ∷ 0 ∷ 0 ∷ 2 ∷ []) (refuses 15) ∷
    -- K7
    along_curve 17 (0 ∷ 0 ∷ 0 ∷ 6 ∷ []) accepts ∷
    along_curve 17 (0 ∷ 0 ∷ 0 ∷ 6 ∷ []) (last_step 4902 4913) ∷
    -- K8
    along_curve 16 (0 ∷ 0 ∷ 0 ∷ 6 ∷ []) (refuses 15) ∷
    along_curve 16 (0 ∷ 0 ∷ 0 ∷ 6 ∷ []) (last_step 4326 4096) ∷
    -- K9
    along_curve 9 (0 ∷ 3 ∷ 3 ∷ 0 ∷ []) (cells (0 ∷ 1 ∷ 2 ∷ 2 ∷ 2 ∷ 2 ∷ 2 ∷ 2 ∷ 1 ∷ 0 ∷ [])) ∷
    -- K10
    along_curve 7 (0 ∷ 3 ∷ 3 ∷ 0 ∷ []) (refuses 15) ∷
    along_curve 8 (0 ∷ 3 ∷ 3 ∷ 0 ∷ []) accepts ∷
    -- K11
    along_curve 1 (5 ∷ 5 ∷ 5 ∷ 5 ∷ []) (cells (5 ∷ 5 ∷ [])) ∷
    -- K12
    patch_row 4 4 sums 2 (cells (1 ∷ 2 ∷ 3 ∷ 4 ∷ 4 ∷ [])) ∷
    []

-- The coordinates of points, or the bytes of cells, with these x, and with y and z 0.
abbrev pub along_x : List ℕ → List ℕ
along_x [] = []
along_x (g ∷ gs) = g ∷ 0 ∷ 0 ∷ along_x gs

abbrev is_accepted : Verdict → Bool
is_accepted accepted = true
is_accepted (refused k) = false

abbrev is_refused : ℕ → Verdict → Bool
is_refused k accepted = false
is_refused k (refused l) = eqb k l

-- An object does what is said of it along the row with n steps and the later indices `is`.
abbrev does : Object → (n : ℕ) (is : List ℕ) → Says → Bool
does o n is (cells xs) =
    is_accepted (draw_verdict 8 (volume 8) o) && same_bytes (bytes (map (cell_of o) (row n is))) (along_x xs)
does o n is accepts = is_accepted (draw_verdict 8 (volume 8) o)
does o n is (refuses k) = is_refused k (draw_verdict 8 (volume 8) o)
does o n is (last_step top bottom) =
    eqb (exact o x_axis (n ∷ is)) (exact o x_axis ((n - 1) ∷ is) + top) && eqb (scale_of o) bottom

unfoldable pub holds : Known → Bool
holds (along_curve n xs says) = does (curve n (along_x xs) 1 Over) n [] says
holds (patch_row n m xs j says) = does (patch n m (along_x xs) 1 Over) n (j ∷ []) says

-- Every one of the list holds.
unfoldable pub all_hold : List Known → Bool
all_hold [] = true
all_hold (k ∷ ks) = holds k && all_hold ks
