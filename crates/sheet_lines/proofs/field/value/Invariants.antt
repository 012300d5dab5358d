-- `value` meets its contract: the digits from byte i on, after what was read before them, stand for the whole number,
-- which is below 100000.
use Rattle.std.proofs.Common.{◌≡◌, true, drop}
use Rattle.sheet.specs.Field.{are_digits, decimal}
use Rattle.sheet_lines.proofs.field.value.Given as goal

abbrev pub invariant-loop-digit : goal.invariant-loop-digit
invariant-loop-digit l =
    (decimal 0 l.digits ≡ decimal l.n (drop l.digit-index l.digits)) × (are_digits (drop l.digit-index l.digits) ≡ true)
