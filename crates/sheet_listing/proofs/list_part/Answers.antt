-- `list_part` meets its contract: the number that refuses the cube refuses the call, and of a cube that none refuses the
-- room decides.
use borrow.Author.Tests.{lt-ltb, le-ltb}
use borrow.Author.Rules.{rules}
use mathlib.Core.Path.{◌≡◌, ◌∙◌}
use Prim.Native.Nat.{◌+◌, ◌*◌}
use native.Mathlib.Omega.{arith}
use lib.ListN.{length}
use Rattle.std.specs.Prelude.{Err}
use Rattle.sheet_text.proofs.Refusals.{cube_refused, room_decides}
use Rattle.sheet_text.proofs.Writes.{writes_accepted, writes_refused}
use Rattle.sheet_listing.proofs.list_part.Goals as goal

pub returns-in_err-cube : goal.returns-in_err-cube
returns-in_err-cube c =
    let same : c.from_residual.result ≡ Err c.in_err-cube.field-0.0 = search rules in
    rw same (writes_refused (cube_refused _ _ _ c.in_err-cube.ensures.verdict))

-- A text holds no more lines than places exactly where it is too short for the heading and a line for each place.
pub returns-then-text-count : goal.returns-then-text-count
returns-then-text-count c =
    writes_refused (room_decides _ _ _ c.in_ok-cube.ensures.verdict ∙ rw (lt-ltb (length c.args.text.now) (21 * (c.args.count + 1)) (omega (arith, c.if-text-count.true))))

pub returns : goal.returns
returns c =
    let cube = c.in_ok-cube.ensures.cube in
    writes_accepted
    (room_decides _ _ _ c.in_ok-cube.ensures.verdict ∙ rw (le-ltb (length c.args.text.now) (21 * (c.args.count + 1)) (omega (arith, c.if-text-count.false))))
    (rw (cube.0, cube.1) at c.put_part.ensures)
