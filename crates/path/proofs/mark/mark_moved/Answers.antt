-- `mark_moved` meets its contract.
use Rattle.std.proofs.Common.{◌≡◌, true, refl, arith, rules}
use Rattle.drawing.specs.Drawing.{marked}
use Rattle.scan.proofs.Written.{counted, one_more}
use Rattle.path.proofs.mark.mark_moved.Goals as goal

pub overflow_add-result-then-moved : goal.overflow_add-result-then-moved
overflow_add-result-then-moved c = let e = c.from-new.ensures in record { fits = omega (arith, (counted c.mark_cell.result).1, c.requires.le_mark.2) }

pub returns-then-moved : goal.returns-then-moved
unfolding marked
returns-then-moved c =
    let e : c.args.moved ≡ true = search rules in
    let p = c.place.ensures in
    let new = one_more c.args.ink.mark c.args.ink.choice c.requires.le_mark.0 c.args.grid.now _ c.requires.w_in_bounds c.mark_cell.result
    (rw p at c.mark_cell.ensures.value) in
    let left = rw p at c.mark_cell.ensures.grid_after in
    rw e (record { answer_value = refl; grid_after = rw (left, c.from-new.ensures) (omega (arith, new)); grid_after_2 = left })

pub returns : goal.returns
unfolding marked
returns c = rw c.if-moved.false (record { answer_value = omega arith; grid_after = refl; grid_after_2 = refl })
