-- The totals of a drawn sheet's cube, and a refused sheet's line, are the totals program's output of the input.
use mathlib.Core.Path.{◌≡◌, sym, ◌∙◌, ap, ap₂}
use mathlib.Core.List.{List}
use Prim.Native.Nat.{ℕ, ◌≤◌}
use native.Mathlib.Omega.{arith}
use lib.ListN.{length, take, length-append}
use lib.Seq.{length-take-le}
use Rattle.std.specs.Prelude.{Result, Ok, Err}
use Rattle.cube.specs.Cube.{volume}
use Rattle.sheet.specs.Printed.{refusal_line}
use Rattle.sheet.specs.Part.{over}
use Rattle.sheet_cube.proofs.Early.{judge_early}
use Rattle.sheet_text.specs.Puts.{Puts}
use Rattle.totals.specs.Totals.{totals}
use Rattle.totals.specs.Printed.{totals_printed, totals_output}
use Rattle.sheet_program.specs.Draws.{text_after, DrawsOrRefuses}
use Rattle.sheet_program.specs.Totals.{WritesTotals}
use Rattle.sheet_program.proofs.Drawn.{Drawn, Refused, drawn, refused}

drawn_output : {input bufferNow : List ℕ} {S : ℕ} → Drawn input bufferNow S →
    totals S (take (volume S) bufferNow) ≡ totals_output input
unfolding totals_output
drawn_output {S = S} d = ap (totals S) d.cube ∙ ap totals_printed (sym d.judged)

refused_output : {input textNow : List ℕ} {bytes : ℕ} (r : Refused input textNow bytes) →
    refusal_line r.number r.line ≡ totals_output input
unfolding totals_output
refused_output r = ap totals_printed (sym r.judged)

module _ {input buffer bufferNow text textNow : List ℕ} {r : Result ℕ ℕ}
    (d : DrawsOrRefuses input buffer bufferNow text textNow r) where
  -- A drawn sheet leaves the text as it was.
  pub text_kept : {S : ℕ} → r ≡ Ok S → textNow ≡ text
  text_kept e = d.writes ∙ ap (λ j. text_after j text) (drawn d e).judged

  pub totalled : {S n : ℕ} {after : List ℕ} → r ≡ Ok S →
      Puts (totals S (take (volume S) bufferNow)) textNow after n → WritesTotals input buffer bufferNow text after n
  totalled {S} e p =
      let out : totals S (take (volume S) bufferNow) ≡ totals_output input = drawn_output (drawn d e) in
      record {
        answer = p.counts ∙ ap length out;
        leaves = d.leaves;
        writes = p.holds ∙ ap₂ over out (text_kept e);
      }

  pub line_told : {bytes : ℕ} → r ≡ Err bytes → WritesTotals input buffer bufferNow text textNow bytes
  line_told {bytes} e =
      let b = refused d e in
      record {
        answer = sym (length-take-le bytes textNow b.within) ∙ ap length (b.holds ∙ refused_output b);
        leaves = d.leaves;
        writes = d.writes ∙ ap (λ j. text_after j text) b.judged ∙ ap (λ w. over w text) (refused_output b);
      }

-- What is written lies within the text.
pub totals_within : {input buffer bufferNow text textNow : List ℕ} {r : ℕ} →
    WritesTotals input buffer bufferNow text textNow r → r ≤ length textNow
totals_within w = rw (w.answer, w.writes, length-append) (omega arith)

-- The first 14207 bytes decide the output.
pub totals_early : (input : List ℕ) → totals_output (take 14207 input) ≡ totals_output input
unfolding totals_output
totals_early input = ap totals_printed (judge_early input)
