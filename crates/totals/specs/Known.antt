-- Sheets and the totals that are printed for them: document 01's sample sheet, the empty input, and sheets on which the
-- order of lines, the unmarked cells and the three sums show.
use Rattle.std.specs.Prelude.{List, [], ◌∷◌, ◌++◌, ℕ}
use Rattle.sheet.specs.Line.{in_line, as_line}
use Rattle.sheet.specs.Known.{Known, ◌prints◌, sample, refused_with, stroke, side}

-- A line of totals.
abbrev total : (mark count x y z : ℕ) → List ℕ
total mark count x y z = in_line 10 (mark ∷ count ∷ x ∷ y ∷ z ∷ [])

-- A stroke that stays in one cell.
abbrev dot : (mark x y z : ℕ) → List ℕ
dot mark x y z = as_line (mark ∷ 1 ∷ x ∷ y ∷ z ∷ x ∷ y ∷ z ∷ x ∷ y ∷ z ∷ x ∷ y ∷ z ∷ [])

-- The sample's totals, byte by byte:
--
--          7         4         6         0         0
--          0        60        90        96        96
abbrev sample_totals : List ℕ
sample_totals =
    32 ∷ 32 ∷ 32 ∷ 32 ∷ 32 ∷ 32 ∷ 32 ∷ 32 ∷ 32 ∷ 55 ∷ 32 ∷ 32 ∷ 32 ∷ 32 ∷ 32 ∷ 32 ∷ 32 ∷ 32 ∷ 32 ∷ 52 ∷
    32 ∷ 32 ∷ 32 ∷ 32 ∷ 32 ∷ 32 ∷ 32 ∷ 32 ∷ 32 ∷ 54 ∷ 32 ∷ 32 ∷ 32 ∷ 32 ∷ 32 ∷ 32 ∷ 32 ∷ 32 ∷ 32 ∷ 48 ∷
    32 ∷ 32 ∷ 32 ∷ 32 ∷ 32 ∷ 32 ∷ 32 ∷ 32 ∷ 32 ∷ 48 ∷ 10 ∷
    32 ∷ 32 ∷ 32 ∷ 32 ∷ 32 ∷ 32 ∷ 32 ∷ 32 ∷ 32 ∷ 48 ∷ 32 ∷ 32 ∷ 32 ∷ 32 ∷ 32 ∷ 32 ∷ 32 ∷ 32 ∷ 54 ∷ 48 ∷
    32 ∷ 32 ∷ 32 ∷ 32 ∷ 32 ∷ 32 ∷ 32 ∷ 32 ∷ 57 ∷ 48 ∷ 32 ∷ 32 ∷ 32 ∷ 32 ∷ 32 ∷ 32 ∷ 32 ∷ 32 ∷ 57 ∷ 54 ∷
    32 ∷ 32 ∷ 32 ∷ 32 ∷ 32 ∷ 32 ∷ 32 ∷ 32 ∷ 57 ∷ 54 ∷ 10 ∷ []

-- Every cell of side 2, by a mark of its own, the marks falling.
abbrev eight_dots : List ℕ
eight_dots =
    dot 255 0 0 0 ++ dot 80 1 0 0 ++ dot 70 0 1 0 ++ dot 60 1 1 0 ++
    dot 9 0 0 1 ++ dot 8 1 0 1 ++ dot 7 0 1 1 ++ dot 1 1 1 1

abbrev pub known : List Known
known =
    sample prints sample_totals ∷
    -- refused sheets print what the sheet program prints
    [] prints refused_with 41 1 ∷
    side 41 prints refused_with 43 1 ∷
    (side 4 ++ stroke 1 1 0 ++ stroke 1 1 2) prints refused_with 15 3 ∷
    -- no stroke
    side 2 prints total 0 8 4 4 4 ∷
    -- a mark that a later stroke leaves no cell has no line
    (side 2 ++ dot 9 0 1 0 ++ dot 5 0 1 0) prints (total 5 1 0 1 0 ++ total 0 7 4 3 4) ∷
    -- no cell is unmarked
    (side 2 ++ eight_dots) prints
    (total 1 1 1 1 1 ++ total 7 1 0 1 1 ++ total 8 1 1 0 1 ++ total 9 1 0 0 1 ++ total 60 1 1 1 0 ++ total 70 1 0 1 0 ++
    total 80 1 1 0 0 ++ total 255 1 0 0 0 ++ total 0 0 0 0 0) ∷
    []
