-- What a sheet call says of the sheet and leaves in the buffer.
use mathlib.Core.Path.{◌≡◌, refl, sym, ◌∙◌, ap, subst}
use mathlib.Core.Logic.{⊎_elim}
use mathlib.Core.List.{List, ◌++◌}
use Prim.Native.Nat.{ℕ, ◌≤◌}
use native.Mathlib.Nat.{mul-le-mul}
use native.Mathlib.Omega.{arith}
use lib.Dec.{eqb}
use borrow.Author.Tests.{ne_eqb}
use lib.ListN.{length, take, drop}
use lib.Seq.{take_at, length-take-le}
use Rattle.std.specs.Prelude.{Result, Ok, Err}
use Rattle.decide.specs.declared.Refusal.TheVariants as why
use Rattle.decide.specs.Verdict.{number_of}
use Rattle.decide.proofs.Truth.{decided, equal}
use Rattle.cube.specs.Cube.{volume}
use Rattle.sheet.specs.Sheet.{Stroke, Judged, good, bad, judge}
use Rattle.sheet.specs.Printed.{cube_of}
use Rattle.sheet.proofs.NewCells.{length_cube}
use Rattle.sheet.specs.Call.{judge_call, new_cells_of, Said, drew, refused, said, buffer_after}
use Rattle.sheet_cube.specs.declared.judge.Size.{Size}
use Rattle.sheet_cube.specs.declared.LineRefusal.{LineRefusal}
use Rattle.sheet_cube.specs.declared.Sheet.{Sheet}
use Rattle.sheet_cube.specs.Answer.{said_of, DrawsSheet}
use Rattle.sheet_cube.specs.Lines.{Found, sized, fault, found}
use Rattle.sheet_cube.proofs.Judged.{good≢bad}
use Rattle.sheet_cube.proofs.Drawing.{is_good_lem, GoodSheet, good_sheet, whole_buffer}

module _ (input buffer : List ℕ) where
  -- A buffer of 64000 bytes leaves it to the lines; any other is refused.
  pub buffer_good : length buffer ≡ 64000 → judge_call input buffer ≡ judge input
  unfolding judge_call
  buffer_good e = rw e refl

  pub buffer_bad : ¬ (length buffer ≡ 64000) → judge_call input buffer ≡ bad 21 0
  unfolding judge_call
  buffer_bad n = simp (ne_eqb (length buffer) 64000 n)

-- An accepted call.
pub record Accepted (input bufferNow : List ℕ) (S n new : ℕ) : Type 0 where
  pub strokes : List Stroke
  pub judged : judge input ≡ good S strokes
  pub count : length strokes ≡ n
  pub sum : new_cells_of S strokes ≡ new
  pub cube : take (volume S) bufferNow ≡ cube_of S strokes

abbrev number_in : Found → ℕ
number_in (sized S n) = 0
number_in (fault n k) = n

abbrev line_in : Found → ℕ
line_in (sized S n) = 0
line_in (fault n k) = k

abbrev is_fault : Found → Type 0
is_fault (sized S n) = ⊥
is_fault (fault n k) = Unit

-- A sheet that is found to have a fault is bad, with its number and line.
pub is_bad_lem : (j : Judged) {n k : ℕ} → found j ≡ fault n k → j ≡ bad n k
is_bad_lem (good S strokes) e = absurd (subst is_fault (sym e) tt)
is_bad_lem (bad n k) e = ap (λ s. bad (number_in s) (line_in s)) e

-- What a call says of a sheet says what is found of it.
abbrev found_by : Said → Found
found_by (drew S n new) = sized S n
found_by (refused n k) = fault n k

pub found_said : (j : Judged) {s : Said} → said j ≡ s → found j ≡ found_by s
found_said (good S strokes) e = ap found_by e
found_said (bad n k) e = ap found_by e

-- The sum that a call says.
abbrev new_of : Said → ℕ
new_of (drew S n new) = new
new_of (refused n k) = 0

module _ {input buffer bufferNow : List ℕ} {r : Result Sheet LineRefusal} (d : DrawsSheet input buffer bufferNow r) where
  pub called_accepted : {S n new : ℕ} → said_of r ≡ drew S n new → Accepted input bufferNow S n new
  called_accepted {S} e =
      let g = is_good_lem (judge_call input buffer) (found_said (judge_call input buffer) (sym d.answer ∙ e)) in
      record {
        strokes = g.strokes;
        judged =
            ⊎_elim (λ t. sym (buffer_good input buffer ((equal (length buffer) 64000).0 t)) ∙ g.good)
            (λ f. absurd (good≢bad (sym g.good ∙ buffer_bad input buffer (λ q. f ((equal (length buffer) 64000).1 q)))))
            (decided (eqb (length buffer) 64000));
        count = g.count;
        sum = ap (λ j. new_of (said j)) (sym g.good) ∙ ap new_of (sym d.answer ∙ e);
        cube =
            ap (take (volume S)) (d.leaves ∙ ap (λ j. buffer_after j buffer) g.good) ∙
            take_at (cube_of S g.strokes) (drop (volume S) buffer) (volume S) (length_cube S g.strokes);
      }

-- A call answers and leaves what its contract says: with a buffer of another length,
pub buffer_call : (input buffer : List ℕ) → ¬ (length buffer ≡ 64000) →
    DrawsSheet input buffer buffer (Err (record { refusal = why.Length; line = 0 }))
buffer_call input buffer n =
    let j = sym (buffer_bad input buffer n) in record { answer = ap said j; leaves = ap (λ v. buffer_after v buffer) j }

module _ (input buffer : List ℕ) (h : length buffer ≡ 64000) where
  -- for a refused sheet,
  pub refused_call : (r : LineRefusal) → found (judge input) ≡ fault (number_of r.refusal) r.line →
      DrawsSheet input buffer buffer (Err r)
  refused_call r e =
      let j = sym (is_bad_lem (judge input) e) ∙ sym (buffer_good input buffer h) in
      record { answer = ap said j; leaves = ap (λ v. buffer_after v buffer) j }

  -- and for a good one, whose cube is drawn in the front of the buffer.
  module _ (s : Size) (e : found (judge input) ≡ sized s.side s.curves) where
    abbrev sheet : GoodSheet input s.side s.curves
    sheet = good_sheet input e

    pub cube_there : volume s.side ≤ length buffer
    cube_there =
        let m = sheet.side_most in omega (arith, h, mul-le-mul (mul-le-mul m m) m)

    pub drawn_call : (cube : List ℕ) {new : ℕ} → cube ≡ buffer_after (judge input) (take (volume s.side) buffer) →
        said (judge input) ≡ drew s.side s.curves new →
        DrawsSheet input buffer (cube ++ drop (volume s.side) buffer)
        (Ok (record { side = s.side; curves = s.curves; new_cells = new }))
    drawn_call cube d n =
        let j = sym sheet.judged ∙ sym (buffer_good input buffer h) in
        record {
          answer = sym n ∙ ap said (sym (buffer_good input buffer h));
          leaves =
              ap (◌++ drop (volume s.side) buffer)
              (d ∙ sym (whole_buffer sheet (take (volume s.side) buffer) (length-take-le (volume s.side) buffer cube_there))) ∙
              ap (λ v. buffer_after v buffer) j;
        }
