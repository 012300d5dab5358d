-- `write_totals` meets its contract: the number that refuses the cube refuses the call, and of a cube that none refuses the
-- room decides.
use borrow.Author.Tests.{lt-ltb, le-ltb}
use borrow.Author.Rules.{rules}
use mathlib.Core.Path.{◌≡◌, ◌∙◌}
use lib.ListN.{length}
use Rattle.std.specs.Prelude.{Err}
use Rattle.sheet_text.proofs.Refusals.{cube_refused, room_decides}
use Rattle.sheet_text.proofs.Writes.{writes_accepted, writes_refused}
use Rattle.cube_totals.proofs.write_totals.Goals as goal

pub returns-in_err-cube : goal.returns-in_err-cube
returns-in_err-cube c =
    let same : c.from_residual.result ≡ Err c.in_err-cube.field-0.0 = search rules in
    rw same (writes_refused (cube_refused _ _ _ c.in_err-cube.ensures.verdict))

pub returns-then-text-lt13056 : goal.returns-then-text-lt13056
returns-then-text-lt13056 c =
    writes_refused (room_decides _ _ _ c.in_ok-cube.ensures.verdict ∙ rw (lt-ltb (length c.args.text.now) 13056 c.if-text-lt13056.true))

pub returns : goal.returns
returns c =
    let cube = c.in_ok-cube.ensures.cube in
    writes_accepted
    (room_decides _ _ _ c.in_ok-cube.ensures.verdict ∙ rw (le-ltb (length c.args.text.now) 13056 c.if-text-lt13056.false))
    (rw (cube.0, cube.1) at c.put_totals.ensures)
