-- `refusal_line` meets its contract: the tests are made in the order's turn; then the word, two numbers and a line feed,
-- one after another.
use borrow.Author.Tests.{lt-ltb, le-ltb}
use mathlib.Core.Path.{◌≡◌, refl, ◌∙◌}
use mathlib.Core.Bool.{true, false, ◌||◌}
use mathlib.Core.List.{[], ◌∷◌, ◌++◌}
use Prim.Native.Nat.{ℕ, ◌≤◌}
use native.Mathlib.Omega.{arith}
use lib.Dec.{ltb}
use lib.ListN.{length, drop}
use Rattle.decide.proofs.FirstThat.{first_applies, first_passes, first_empty}
use Rattle.sheet.specs.Printed.{refusal_line}
use Rattle.sheet.specs.Part.{line_order}
use Rattle.sheet_text.specs.Puts.{Puts}
use Rattle.sheet_text.proofs.Line.{line_after, number_next, feed_next}
use Rattle.sheet_text.proofs.Puts.{puts_length}
use Rattle.sheet_text.proofs.Writes.{writes_accepted, writes_refused}
use Rattle.sheet_text.proofs.refusal_line.Goals as goal
use Rattle.sheet_text.proofs.refusal_line.Goals.{then-number-gt99999-via-then-number-gt99999, then-number-gt99999-via-else-number-gt99999+then-line-gt99999}

-- Neither number is above 99999.
within : (number line : ℕ) → number ≤ 99999 → line ≤ 99999 → (ltb 99999 number || ltb 99999 line) ≡ false
within number line n l = simp (le-ltb 99999 number n, le-ltb 99999 line l)

pub returns-then-number-gt99999 : goal.returns-then-number-gt99999
unfolding line_order
returns-then-number-gt99999 c =
    let a = c.args in
    let above : (ltb 99999 a.number || ltb 99999 a.line) ≡ true =
    elim c.then-number-gt99999.branch [
      | then-number-gt99999-via-then-number-gt99999 w ↦ simp (lt-ltb 99999 a.number w.if-number-gt99999.true)
      | then-number-gt99999-via-else-number-gt99999+then-line-gt99999 w ↦
          simp (le-ltb 99999 a.number w.if-number-gt99999.false, lt-ltb 99999 a.line w.if-line-gt99999.true)
    ] in
    writes_refused (first_applies 54 _ _ above)

pub returns-then-text-lt18 : goal.returns-then-text-lt18
unfolding line_order
returns-then-text-lt18 c =
    writes_refused
    (first_passes 54 _ _ (within _ _ c.if-number-gt99999.false c.if-line-gt99999.false) ∙
    first_applies 22 _ _ (lt-ltb _ _ c.if-text-lt18.true))

pub returns : goal.returns
unfolding line_order refusal_line
returns c =
    let a = c.args in
    let long : 18 ≤ length a.text.now = c.if-text-lt18.false in
    let word : Puts (82 ∷ 69 ∷ 70 ∷ 85 ∷ 83 ∷ 69 ∷ 68 ∷ []) a.text.now (c.copy_from_slice.new.self ++ drop 7 a.text.now) 7 =
    record { holds = rw c.copy_from_slice.ensures.after refl; counts = refl } in
    writes_accepted
    (first_passes 54 _ _ (within _ _ c.if-number-gt99999.false c.if-line-gt99999.false) ∙
    first_passes 22 _ _ (le-ltb _ _ long) ∙ first_empty)
    (feed_next (omega arith)
    (number_next (omega arith) c.put_columns-2.ensures
    (number_next (omega arith) c.put_columns.ensures (line_after word (puts_length word (omega arith))))))
