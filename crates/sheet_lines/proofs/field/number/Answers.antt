-- `number` meets its contract: no digit is a bad field, and others stand for its value.
use Rattle.std.proofs.Common.{sym, ◌∙◌, ap, length, Some, arith}
use Rattle.sheet.specs.Field.{decimal, value_of}
use Rattle.sheet_lines.proofs.Fields.{digits_few, no_digits_bad, digits_good, bad_read, good_read}
use Rattle.sheet_lines.proofs.field.number.Goals as goal

pub returns-in-empty : goal.returns-in-empty
returns-in-empty c =
    let f = c.args.field.now in
    sym (bad_read f (no_digits_bad f (ap length (sym c.digits.ensures) ∙ omega (arith, c.in-empty.len_below))))

pub value-requires : goal.value-requires
value-requires c =
    let few = digits_few c.args.field.now in
    record { digits_len_bound = rw c.digits.ensures few.0; digits_value = rw c.digits.ensures few.1 }

pub returns-in_default : goal.returns-in_default
unfolding value_of
returns-in_default c =
    let f = c.args.field.now in
    let d = c.digits.ensures in
    ap Some (c.value.ensures ∙ ap (decimal 0) d) ∙
    sym (good_read f (digits_good f (λ e. omega (arith, c.in_default.len_at_least, ap length d, e))))
