-- Sheets and what is printed for them: document 01's sample sheet, the empty input, a sheet for each refusal number and
-- for numbers that apply together, and good sheets.
use Rattle.std.specs.Prelude.{Bool, true, ◌&&◌, List, [], ◌∷◌, ◌++◌, ℕ, zero, suc, take, drop}
use Rattle.decide.specs.Same.{same_bytes}
use Rattle.sheet.specs.Line.{as_line}
use Rattle.sheet.specs.Printed.{heading}

-- An input and its output.
pub record Known : Type 0 where
  pub input : List ℕ
  pub printed : List ℕ

abbrev pub ◌prints◌ : List ℕ → List ℕ → Known
i prints o = record { input = i; printed = o }

infix 68 ◌prints◌
-- The sample sheet, byte by byte:
--
--     4
--     7    3    0    0    0    1    0    0    2    0    0    3    0    0
abbrev pub sample : List ℕ
sample =
    32 ∷ 32 ∷ 32 ∷ 32 ∷ 52 ∷ 10 ∷
    32 ∷ 32 ∷ 32 ∷ 32 ∷ 55 ∷ 32 ∷ 32 ∷ 32 ∷ 32 ∷ 51 ∷ 32 ∷ 32 ∷ 32 ∷ 32 ∷ 48 ∷
    32 ∷ 32 ∷ 32 ∷ 32 ∷ 48 ∷ 32 ∷ 32 ∷ 32 ∷ 32 ∷ 48 ∷ 32 ∷ 32 ∷ 32 ∷ 32 ∷ 49 ∷
    32 ∷ 32 ∷ 32 ∷ 32 ∷ 48 ∷ 32 ∷ 32 ∷ 32 ∷ 32 ∷ 48 ∷ 32 ∷ 32 ∷ 32 ∷ 32 ∷ 50 ∷
    32 ∷ 32 ∷ 32 ∷ 32 ∷ 48 ∷ 32 ∷ 32 ∷ 32 ∷ 32 ∷ 48 ∷ 32 ∷ 32 ∷ 32 ∷ 32 ∷ 51 ∷
    32 ∷ 32 ∷ 32 ∷ 32 ∷ 48 ∷ 32 ∷ 32 ∷ 32 ∷ 32 ∷ 48 ∷ 10 ∷ []

-- And its listing:
--
--     X    Y    Z MARK
--     0    0    0    7
--     1    0    0    7
--     2    0    0    7
--     3    0    0    7
abbrev sample_listing : List ℕ
sample_listing =
    32 ∷ 32 ∷ 32 ∷ 32 ∷ 88 ∷ 32 ∷ 32 ∷ 32 ∷ 32 ∷ 89 ∷
    32 ∷ 32 ∷ 32 ∷ 32 ∷ 90 ∷ 32 ∷ 77 ∷ 65 ∷ 82 ∷ 75 ∷ 10 ∷
    32 ∷ 32 ∷ 32 ∷ 32 ∷ 48 ∷ 32 ∷ 32 ∷ 32 ∷ 32 ∷ 48 ∷
    32 ∷ 32 ∷ 32 ∷ 32 ∷ 48 ∷ 32 ∷ 32 ∷ 32 ∷ 32 ∷ 55 ∷ 10 ∷
    32 ∷ 32 ∷ 32 ∷ 32 ∷ 49 ∷ 32 ∷ 32 ∷ 32 ∷ 32 ∷ 48 ∷
    32 ∷ 32 ∷ 32 ∷ 32 ∷ 48 ∷ 32 ∷ 32 ∷ 32 ∷ 32 ∷ 55 ∷ 10 ∷
    32 ∷ 32 ∷ 32 ∷ 32 ∷ 50 ∷ 32 ∷ 32 ∷ 32 ∷ 32 ∷ 48 ∷
    32 ∷ 32 ∷ 32 ∷ 32 ∷ 48 ∷ 32 ∷ 32 ∷ 32 ∷ 32 ∷ 55 ∷ 10 ∷
    32 ∷ 32 ∷ 32 ∷ 32 ∷ 51 ∷ 32 ∷ 32 ∷ 32 ∷ 32 ∷ 48 ∷
    32 ∷ 32 ∷ 32 ∷ 32 ∷ 48 ∷ 32 ∷ 32 ∷ 32 ∷ 32 ∷ 55 ∷ 10 ∷ []

-- REFUSED in letters, then the number and the line.
abbrev pub refused_with : (n k : ℕ) → List ℕ
refused_with n k = (82 ∷ 69 ∷ 70 ∷ 85 ∷ 83 ∷ 69 ∷ 68 ∷ []) ++ as_line (n ∷ k ∷ [])

-- A curve line that stays in cell 0 but for the x of its last point.
abbrev pub stroke : (mark n x : ℕ) → List ℕ
stroke mark n x = as_line (mark ∷ n ∷ 0 ∷ 0 ∷ 0 ∷ 0 ∷ 0 ∷ 0 ∷ 0 ∷ 0 ∷ 0 ∷ x ∷ 0 ∷ 0 ∷ [])

abbrev pub side : ℕ → List ℕ
side s = as_line (s ∷ [])

-- Field text: blanks and a byte.
abbrev byte_field : ℕ → List ℕ
byte_field b = 32 ∷ 32 ∷ 32 ∷ 32 ∷ b ∷ []

-- The same lines again and again.
unfoldable pub times : ℕ → List ℕ → List ℕ
times zero l = []
times (suc k) l = l ++ times k l

abbrev pub known : List Known
known =
    sample prints sample_listing ∷
    -- REFUSED   41    1, byte by byte
    [] prints
    (82 ∷ 69 ∷ 70 ∷ 85 ∷ 83 ∷ 69 ∷ 68 ∷ 32 ∷ 32 ∷ 32 ∷ 52 ∷ 49 ∷ 32 ∷ 32 ∷ 32 ∷ 32 ∷ 49 ∷ 10 ∷ []) ∷
    side 1 prints refused_with 11 1 ∷
    side 65 prints refused_with 11 1 ∷
    (side 4 ++ stroke 0 1 0) prints refused_with 12 2 ∷
    (side 4 ++ stroke 256 1 0) prints refused_with 12 2 ∷
    (side 4 ++ stroke 1 1 0 ++ stroke 1 513 0) prints refused_with 13 3 ∷
    (side 4 ++ stroke 1 1 4) prints refused_with 14 2 ∷
    (side 4 ++ stroke 1 1 2) prints refused_with 15 2 ∷
    -- no line feed
    take 5 (side 4) prints refused_with 41 1 ∷
    -- another byte in its place
    (byte_field 52 ++ 32 ∷ []) prints refused_with 41 1 ∷
    -- an empty line after the last
    (side 4 ++ 10 ∷ []) prints refused_with 41 2 ∷
    -- a leading zero, and no digit
    (32 ∷ 32 ∷ 32 ∷ 48 ∷ 52 ∷ 10 ∷ []) prints refused_with 42 1 ∷
    (32 ∷ 32 ∷ 32 ∷ 32 ∷ 32 ∷ 10 ∷ []) prints refused_with 42 1 ∷
    -- a tab before the number
    (9 ∷ 32 ∷ 32 ∷ 32 ∷ 52 ∷ 10 ∷ []) prints refused_with 42 1 ∷
    side 41 prints refused_with 43 1 ∷
    -- two numbers apply to one line: 41 and 42; 12 and 13; 13 and 14; 14 and 15
    (32 ∷ 32 ∷ 32 ∷ 48 ∷ 52 ∷ []) prints refused_with 41 1 ∷
    (side 4 ++ stroke 0 513 0) prints refused_with 12 2 ∷
    (side 4 ++ stroke 1 513 4) prints refused_with 13 2 ∷
    (side 4 ++ stroke 1 1 5) prints refused_with 14 2 ∷
    -- a bad mark's field, then a bad last field
    (side 4 ++ byte_field 43 ++ drop 5 (stroke 1 1 0)) prints refused_with 42 2 ∷
    (side 4 ++ take 65 (stroke 1 1 0) ++ byte_field 32 ++ 10 ∷ []) prints refused_with 42 2 ∷
    -- two lines are refused
    (side 4 ++ stroke 1 1 2 ++ stroke 0 1 0) prints refused_with 15 2 ∷
    -- no stroke, a stroke over another, and a stroke from (1, 0, 0) to (0, 1, 1)
    side 2 prints heading ∷
    (side 2 ++ stroke 7 1 1 ++ stroke 255 1 0) prints
    (heading ++ as_line (0 ∷ 0 ∷ 0 ∷ 255 ∷ []) ++ as_line (1 ∷ 0 ∷ 0 ∷ 7 ∷ [])) ∷
    (side 2 ++ as_line (1 ∷ 1 ∷ 1 ∷ 0 ∷ 0 ∷ 1 ∷ 0 ∷ 0 ∷ 1 ∷ 0 ∷ 0 ∷ 0 ∷ 1 ∷ 1 ∷ [])) prints
    (heading ++ as_line (1 ∷ 0 ∷ 0 ∷ 1 ∷ []) ++ as_line (0 ∷ 1 ∷ 1 ∷ 1 ∷ [])) ∷
    -- a byte after the 200th curve line
    (side 2 ++ times 200 (stroke 1 1 0) ++ 10 ∷ []) prints refused_with 44 202 ∷
    []

-- A program, from input to output, prints for every input what is listed.
unfoldable pub all_print : (program : List ℕ → List ℕ) → List Known → Bool
all_print program [] = true
all_print program (k ∷ ks) = same_bytes (program k.input) k.printed && all_print program ks
