-- `value` meets its contract: the digits from byte i on, after what was read before them, stand for the whole number,
-- which is below 100000.
use Rattle.std.proofs.Common.{◌≡◌, sym, ◌∙◌, true, ℕ, ◌+◌, ◌-◌, ◌*◌, ◌≤◌, ◌<◌, List, length, get_or, drop, arith}
use Rattle.sheet.specs.Field.{are_digits, decimal}
use Rattle.sheet_lines.proofs.Fields.{next_digit, digit_read, read_end, read_before, few_below}
use Rattle.sheet_lines.proofs.field.value.Goals as goal

-- With a digit more the number is still below 100000.
with_digit : (ds : List ℕ) (n i : ℕ) → length ds ≤ 5 → are_digits ds ≡ true → i < length ds → decimal 0 ds ≡ decimal n (drop i ds) →
    10 * n + (get_or ds i 0 - 48) < 100000
with_digit ds n i few digits h e =
    let r = digit_read ds i h n in
    omega (arith, few_below ds few digits, read_before (10 * n + (get_or ds i 0 - 48)) (drop (i + 1) ds))

pub overflow_mul-n : goal.overflow_mul-n
overflow_mul-n c =
    let p = c.requires in
    record { fits = omega (arith, with_digit _ _ _ p.digits_len_bound p.digits_value c.loop-digit-test.true c.loop-digit.invariant.0) }

pub overflow_sub-digit : goal.overflow_sub-digit
overflow_sub-digit c = (next_digit _ _ c.loop-digit-test.true c.loop-digit.invariant.1).0

pub overflow_add-n : goal.overflow_add-n
overflow_add-n c =
    let p = c.requires in
    record { fits = omega (arith, with_digit _ _ _ p.digits_len_bound p.digits_value c.loop-digit-test.true c.loop-digit.invariant.0, c.from.ensures) }

pub loop-digit-preserved : goal.loop-digit-preserved
loop-digit-preserved c =
    let l = c.loop-digit in
    let t = c.loop-digit-test.true in (
      l.invariant.0 ∙ digit_read _ l.digit-index t l.n ∙ rw (← c.from.ensures),
      (next_digit _ l.digit-index t l.invariant.1).1,
    )

pub returns : goal.returns
returns c =
    let l = c.loop-digit in
    sym (l.invariant.0 ∙ read_end _ l.digit-index c.loop-digit-test.false l.n)
