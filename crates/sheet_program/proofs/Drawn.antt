-- What a drawn sheet leaves, and a refused one: the sheet's cube in front of the buffer, or its refusal line in front
-- of the text.
use mathlib.Core.Path.{◌≡◌, refl, sym, ◌∙◌, ap}
use mathlib.Core.List.{List, ◌++◌}
use Prim.Native.Nat.{ℕ, ◌≤◌}
use native.Mathlib.Nat.{mul-le-mul}
use native.Mathlib.Omega.{arith}
use lib.ListN.{length, take, drop, length-append}
use lib.Seq.{take_at, length-take-le}
use Rattle.std.specs.Prelude.{Result, Ok, Err}
use Rattle.cube.specs.Cube.{volume}
use Rattle.sheet.specs.Sheet.{Stroke, Judged, good, bad, judge}
use Rattle.sheet.specs.Printed.{cube_of, refusal_line}
use Rattle.sheet.specs.Call.{buffer_after}
use Rattle.sheet.proofs.Printed.{length_refusal_line}
use Rattle.sheet_cube.specs.Lines.{found}
use Rattle.sheet.proofs.NewCells.{length_cube}
use Rattle.sheet_cube.proofs.Drawing.{good_sheet}
use Rattle.sheet_program.specs.Draws.{drawing_of, text_after, DrawsOrRefuses}

-- A drawn sheet.
pub record Drawn (input bufferNow : List ℕ) (S : ℕ) : Type 0 where
  pub strokes : List Stroke
  pub judged : judge input ≡ good S strokes
  pub side_least : 2 ≤ S
  pub side_most : S ≤ 40
  pub small : volume S ≤ 64000
  pub within : volume S ≤ length bufferNow
  pub cube : take (volume S) bufferNow ≡ cube_of S strokes

-- A refused sheet, with a refusal line of so many bytes.
pub record Refused (input textNow : List ℕ) (bytes : ℕ) : Type 0 where
  pub number : ℕ
  pub line : ℕ
  pub judged : judge input ≡ bad number line
  pub within : bytes ≤ length textNow
  pub holds : take bytes textNow ≡ refusal_line number line

-- What an answer says of what is judged.
is_good_lem : (j : Judged) {S : ℕ} → drawing_of j ≡ Ok S → (strokes : List Stroke) × (j ≡ good S strokes)
is_good_lem (good R strokes) e = (strokes, cc)
is_good_lem (bad n k) e = let z : ◌≡◌ {A = ℕ} 0 1 = cc in absurd (omega arith)

is_bad_lem : (j : Judged) {b : ℕ} → drawing_of j ≡ Err b → (n : ℕ) × (k : ℕ) × (j ≡ bad n k) × (b ≡ 18)
is_bad_lem (good S strokes) e = let z : ◌≡◌ {A = ℕ} 0 1 = cc in absurd (omega arith)
is_bad_lem (bad n k) e = (n, k, refl, cc)

module _ {input buffer bufferNow text textNow : List ℕ} {r : Result ℕ ℕ}
    (d : DrawsOrRefuses input buffer bufferNow text textNow r) where
  pub drawn : {S : ℕ} → r ≡ Ok S → Drawn input bufferNow S
  drawn {S} e =
      let g = is_good_lem (judge input) (sym d.answer ∙ e) in
      let sheet = good_sheet input (ap found g.1) in
      let most : S ≤ 40 = sheet.side_most in
      let size : length (cube_of S g.0) ≡ volume S = length_cube S g.0 in
      let holds : bufferNow ≡ cube_of S g.0 ++ drop (volume S) buffer =
      d.leaves ∙ ap (λ j. buffer_after j buffer) g.1 in
      record {
        strokes = g.0;
        judged = g.1;
        side_least = sheet.side_least;
        side_most = most;
        small = mul-le-mul (mul-le-mul most most) most;
        within = rw (holds, length-append, size) (omega arith);
        cube = rw holds (take_at (cube_of S g.0) (drop (volume S) buffer) (volume S) size);
      }

  pub refused : {bytes : ℕ} → r ≡ Err bytes → Refused input textNow bytes
  refused {bytes} e =
      let b = is_bad_lem (judge input) (sym d.answer ∙ e) in
      let text_line : List ℕ = refusal_line b.0 b.1 in
      let size : length text_line ≡ bytes = length_refusal_line b.0 b.1 ∙ sym b.3 in
      let holds : textNow ≡ text_line ++ drop (length text_line) text =
      d.writes ∙ ap (λ j. text_after j text) b.2 in
      record {
        number = b.0;
        line = b.1;
        judged = b.2;
        within = rw (holds, length-append, size) (omega arith);
        holds = rw holds (take_at text_line (drop (length text_line) text) bytes size);
      }

-- The cells of a drawn sheet's cube are so many bytes of the buffer.
pub taken : {input bufferNow : List ℕ} {S : ℕ} → Drawn input bufferNow S → {n : ℕ} → n ≡ volume S → length (take n bufferNow) ≡ n
taken {bufferNow = b} d {n} e = length-take-le n b (rw e d.within)
