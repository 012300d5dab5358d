-- `is_number` meets its contract: without a leading zero, the digits decide.
use Rattle.std.proofs.Common.{rules, sym, ◌∙◌, arith}
use Rattle.sheet_lines.proofs.Fields.{all_digits, no_digit, no_leading_zero, leading_zero}
use Rattle.sheet_lines.proofs.field.is_number.Goals as goal
use Rattle.sheet_lines.proofs.field.is_number.Goals.{else-part-gt1-via-then-part-gt1+else-part-eq48, else-part-gt1-via-else-part-gt1}

pub returns-then-part-eq48 : goal.returns-then-part-eq48
returns-then-part-eq48 c = sym (leading_zero c.args.part.now (omega arith) c.if-part-eq48.true)

pub returns-then-not-is_empty : goal.returns-then-not-is_empty
returns-then-not-is_empty c =
    let part = c.args.part.now in
    c.are_digits.ensures ∙ all_digits part ∙
    sym (no_leading_zero part (search rules) (λ h e. elim c.else-part-gt1.branch [
      | else-part-gt1-via-then-part-gt1+else-part-eq48 w ↦ w.if-part-eq48.false e
      | else-part-gt1-via-else-part-gt1 w ↦ omega arith
    ]))

pub returns-else-not-is_empty : goal.returns-else-not-is_empty
returns-else-not-is_empty c = rw c.if-not-is_empty.false (sym (no_digit c.args.part.now (search rules)))
