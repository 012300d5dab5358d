-- `judge_side` meets its contract: the side, or the first number of line 1's order that applies.
use Rattle.std.proofs.Common.{◌≡◌, sym, Bool, true, false, not, List, ℕ, ◌≤◌, ◌<◌, take, Some, None, arith}
use Rattle.decide.specs.Refusal.{accepted, refused, first_that}
use Rattle.sheet.specs.Field.{is_bad}
use Rattle.sheet.specs.Line.{field, number, is_wrong}
use Rattle.sheet.specs.Sheet.{side_order}
use Rattle.sheet_lines.specs.Read.{first_line, read_field}
use Rattle.sheet_lines.proofs.Fields.{read_good, not_read}
use Rattle.sheet_cube.proofs.Verdicts.{WholeLine, is_wrong_lem, is_whole, side_wrong, side_bad, side_out_lem, side_large, side_good}
use Rattle.sheet_cube.proofs.judge.judge_side.Goals as goal

pub returns-then-not-is_line : goal.returns-then-not-is_line
returns-then-not-is_line c = side_wrong _ (is_wrong_lem 1 _ c.is_line.ensures c.if-not-is_line.true)

pub slice_bounds-number_at-end : goal.slice_bounds-number_at-end
slice_bounds-number_at-end c = sym (is_whole 1 _ c.is_line.ensures c.if-not-is_line.false).whole

pub number_at-requires : goal.number_at-requires
number_at-requires c = omega (arith, (is_whole 1 _ c.is_line.ensures c.if-not-is_line.false).whole)

-- Past the test of the line, what is read is read of line 1's field.
module _ (input : List ℕ) {r : Bool} (whole : r ≡ not (is_wrong 1 (first_line input))) (t : r ≡ true) where
  abbrev line : List ℕ
  line = first_line input

  first : WholeLine 1 input
  first = is_whole 1 input whole t

  unread : None ≡ read_field (field (take 6 input) 0) → first_that (side_order line) ≡ refused 42
  unread e = side_bad line first.right (not_read (field line 0) (sym (rw first.taken at e)))

  module _ {n : ℕ} (e : Some n ≡ read_field (field (take 6 input) 0)) where
    is_read : (is_bad (field line 0) ≡ false) × (n ≡ number line 0)
    is_read = read_good (field line 0) (sym (rw first.taken at e))

    is_good : 2 ≤ n → n ≤ 40 → (first_that (side_order line) ≡ accepted) × (n ≡ number line 0)
    is_good a b = (side_good line first.right is_read.0 (omega (arith, is_read.1)) (omega (arith, is_read.1)), is_read.1)

    is_large : n ≤ 64 → 40 < n → first_that (side_order line) ≡ refused 43
    is_large a b = side_large line first.right is_read.0 (omega (arith, is_read.1)) (omega (arith, is_read.1))

    is_out : ((2 ≤ n) × (n ≤ 64) → ⊥) → first_that (side_order line) ≡ refused 11
    is_out out = side_out_lem line first.right is_read.0 (rw is_read.1 at out)

pub returns-in-Some-2-to-40 : goal.returns-in-Some-2-to-40
returns-in-Some-2-to-40 c = is_good _ c.is_line.ensures c.if-not-is_line.false c.in-Some-2-to-40.ensures (omega arith) (omega arith)

pub returns-in-Some-41-to-64 : goal.returns-in-Some-41-to-64
returns-in-Some-41-to-64 c = is_large _ c.is_line.ensures c.if-not-is_line.false c.in-Some-41-to-64.ensures (omega arith) (omega arith)

pub returns-in-Some : goal.returns-in-Some
returns-in-Some c = is_out _ c.is_line.ensures c.if-not-is_line.false c.in-Some.ensures (λ p. omega arith)

pub returns-in-Some-2 : goal.returns-in-Some-2
returns-in-Some-2 c = is_out _ c.is_line.ensures c.if-not-is_line.false c.in-Some.ensures (λ p. omega arith)

pub returns-in-None : goal.returns-in-None
returns-in-None c = unread _ c.is_line.ensures c.if-not-is_line.false c.in-None.ensures
