-- `digits` meets its contract: what stands after the blanks is handed back where the tests of the definition let it.
use Rattle.std.proofs.Common.{◌≡◌, sym, ◌∙◌, Bool, cond, List, [], ℕ, ◌-◌, ◌==◌, length, take, drop, length-drop, arith}
use Rattle.std.specs.List.{prefix_len}
use lib.Seq.{take_all}
use Rattle.sheet.specs.Field.{after_blanks, is_number, digits_of}
use Rattle.sheet_lines.proofs.Fields.{not_five, of_five, after_prefix}
use Rattle.sheet_lines.proofs.field.digits.Goals as goal

-- The part that is tested is what stands after the blanks.
handed : (field : List ℕ) (b : ℕ) (t : Bool) → length field ≡ 5 → b ≡ prefix_len (λ a. a == 32) field →
    t ≡ is_number (take (length field - b) (drop b field)) → digits_of field ≡ cond t (take (length field - b) (drop b field)) []
handed field b t five blanks number =
    let after : take (length field - b) (drop b field) ≡ after_blanks field =
    take_all (length field - b) (drop b field) (omega (arith, length-drop b field)) ∙ rw blanks (after_prefix field) in
    of_five field five ∙ rw (← after, ← number)

pub returns-then-field-ne5 : goal.returns-then-field-ne5
returns-then-field-ne5 c = sym (not_five _ c.if-field-ne5.true)

pub returns-then-is_number : goal.returns-then-is_number
returns-then-is_number c = sym (handed _ _ _ (omega arith) c.blanks-first.ensures.value c.is_number.ensures ∙ rw c.if-is_number.true)

pub returns-else-is_number : goal.returns-else-is_number
returns-else-is_number c = sym (handed _ _ _ (omega arith) c.blanks-first.ensures.value c.is_number.ensures ∙ rw c.if-is_number.false)
