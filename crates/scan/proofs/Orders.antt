-- The order for drawing and listing in two parts: what comes before the step test, and the step test. What the first part
-- passes is within the limits that the step test asks for. Then verdicts and answers as the functions that draw meet them.
use mathlib.Core.Path.{◌≡◌, sym, ◌∙◌, ap}
use mathlib.Core.Bool.{Bool, true, false, not}
use mathlib.Core.List.{List, [], ◌∷◌}
use Prim.Native.Nat.{ℕ, ◌+◌, ◌≤◌, ◌<◌}
use lib.Dec.{eqb}
use lib.ListN.{length, get_or}
use Rattle.std.specs.Prelude.{Result, Ok, Err}
use Rattle.decide.specs.Some.{some_of}
use Rattle.decide.specs.Refusal.{◌when◌, Verdict, accepted, refused, first_that, or_else}
use Rattle.decide.specs.declared.Refusal.{Refusal}
use Rattle.decide.specs.Verdict.{number_of}
use Rattle.decide.proofs.Truth.{false_iff}
use Rattle.decide.proofs.Some.{some_of_lem}
use Rattle.decide.proofs.FirstThat.{accepted_none, first_append}
use Rattle.cube.specs.Cube.{side_out, volume}
use Rattle.cube.proofs.Words.{side_in_lem}
use Rattle.drawing.specs.Object.{Object}
use Rattle.drawing.specs.Refusals.{count_out, coordinate_out, steps_too_long, order, draw_verdict}
use Rattle.drawing.specs.Drawing.{Drawing, drawn_by, Listing}
use Rattle.drawing.specs.NewCells.{unmarked_cells}
use Rattle.drawing.proofs.Accepted.{coordinate_in}
use Rattle.drawing.proofs.Drawn.{drawn_refused}
use Rattle.drawing.proofs.Listed.{listed_refused}
use Rattle.drawing.proofs.NewCells.{new_of_lem}
use Rattle.scan.specs.declared.answer.Drawn.{Drawn}
use Rattle.scan.specs.Answer.{Draws, Lists}
use Rattle.scan.specs.Refusals.{before_steps}

-- The verdict of the step test.
abbrev pub step_verdict : Object → Verdict
step_verdict o = first_that (15 when steps_too_long o ∷ [])

module _ (S : ℕ) (o : Object) (g m l : Bool) where
  -- What comes before the step test, and the step test.
  pub order_parts : (out : Bool) → out ≡ some_of (count_out o.most) o.counts →
      first_that (order S o g m l) ≡ or_else (first_that (before_steps S o.points g m out l)) (step_verdict o)
  unfolding order before_steps
  order_parts out e = rw e (first_append (before_steps S o.points g m (some_of (count_out o.most) o.counts) l) _)

-- Where a long step decides, and where none does.
module _ (o : Object) where
  pub long_refused : steps_too_long o ≡ true → step_verdict o ≡ refused 15
  unfolding first_that
  long_refused e = rw e

  pub short_accepted : steps_too_long o ≡ false → step_verdict o ≡ accepted
  unfolding first_that
  short_accepted e = rw e

-- Past the tests before the step test.
pub record Passed (S : ℕ) (points : List ℕ) (out : Bool) : Type 0 where
  pub side_least : 2 ≤ S
  pub side_most : S ≤ 64
  pub count_in : out ≡ false
  pub coordinate_below : (k : ℕ) → k < length points → get_or points k 0 < S

pub passed : (S : ℕ) (points : List ℕ) (g m out l : Bool) → first_that (before_steps S points g m out l) ≡ accepted →
    Passed S points out
unfolding before_steps
passed S points g m out l e =
    let n = (accepted_none (before_steps S points g m out l)).0 e in
    let side = (side_in_lem S).0 ((false_iff (side_out S)).0 n.0) in
    let below = (false_iff (some_of (coordinate_out S) points)).0 n.1.1.1.1.1.0 in
    record {
      side_least = side.0;
      side_most = side.1;
      count_in = n.1.1.1.0;
      coordinate_below = λ k h. (coordinate_in S (get_or points k 0)).0 (λ t. below ((some_of_lem (coordinate_out S) points).1 (k, h, t)));
    }

-- A call's verdict, by what the tests before the step test found, and then by what the step test did.
module _ (S : ℕ) (o : Object) (g m l : Bool) {out : Bool} (count : out ≡ some_of (count_out o.most) o.counts) where
  -- A number before the step test.
  pub refused_before : {k : ℕ} → refused k ≡ first_that (before_steps S o.points g m out l) →
      refused k ≡ first_that (order S o g m l)
  refused_before e = sym (order_parts S o g m l out count ∙ ap (λ v. or_else v (step_verdict o)) (sym e))

  module _ (e : accepted ≡ first_that (before_steps S o.points g m out l)) where
    pub past_tests : Passed S o.points out
    past_tests = passed S o.points g m out l (sym e)

    -- 15 or no number, as the step test says.
    pub steps_decide : first_that (order S o g m l) ≡ step_verdict o
    steps_decide = order_parts S o g m l out count ∙ ap (λ v. or_else v (step_verdict o)) (sym e)

    pub refused_long : {long : Bool} → long ≡ steps_too_long o → long ≡ true → refused 15 ≡ first_that (order S o g m l)
    refused_long t b = sym (steps_decide ∙ long_refused o (sym t ∙ b))

    pub accepted_short : {long : Bool} → long ≡ steps_too_long o → long ≡ false → accepted ≡ first_that (order S o g m l)
    accepted_short t b = sym (steps_decide ∙ short_accepted o (sym t ∙ b))

-- A drawing's verdict, where `cube` is what the test of the grid's length answered.
pub draw_judged : (S : ℕ) (o : Object) (bytes : ℕ) {cube : Bool} → cube ≡ eqb bytes (volume S) →
    draw_verdict S bytes o ≡ first_that (order S o (not cube) (eqb o.mark 0) false)
unfolding draw_verdict
draw_judged S o bytes same = rw same

-- A drawing's answer and grid, by its verdict.
module _ (d : Drawing) (grid : List ℕ) where
  pub draws_refused : {why : Refusal} {r : Result Drawn Refusal} → d.verdict (length grid) ≡ refused (number_of why) →
      r ≡ Err why → Draws d grid grid r
  draws_refused v same = record { answer = rw (same, v); leaves = sym (drawn_refused d grid v) }

  pub draws_accepted : d.verdict (length grid) ≡ accepted → (after : List ℕ) {count new : ℕ} →
      after ≡ drawn_by d grid → count ≡ d.answer → new + unmarked_cells after ≡ unmarked_cells grid →
      Draws d grid after (Ok (record { answer = count; new_cells = new }))
  draws_accepted a after e n k = record { answer = rw (a, n, new_of_lem grid after k); leaves = e }

-- A refused listing's answer and list.
pub lists_refused : (l : Listing) (list : List ℕ) {why : Refusal} {r : Result ℕ Refusal} →
    l.verdict (length list) ≡ refused (number_of why) → r ≡ Err why → Lists l list list r
lists_refused l list v same = record { answer = rw (same, v); leaves = sym (listed_refused l list v) }
