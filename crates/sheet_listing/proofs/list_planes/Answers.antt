-- `list_planes` meets its contract: plane by plane, the listing of the planes so far is written from the front.
use mathlib.Core.Path.{refl}
use native.Mathlib.Omega.{arith}
use Rattle.sheet_listing.proofs.ByPlane.{first_plane, next_plane, no_more}
use Rattle.sheet_listing.proofs.list_planes.Invariants.{square}
use Rattle.sheet_listing.proofs.list_planes.Goals as goal

pub loop-next-init : goal.loop-next-init
loop-next-init c =
    let a = c.args in
    first_plane a.cube.side a.cube.bytes.now a.z (omega arith) (omega (arith, square c.requires.side_bound))
    c.put_part-bytes.ensures

pub loop-next-preserved : goal.loop-next-preserved
loop-next-preserved c =
    let a = c.args in
    let l = c.loop-next in
    next_plane a.cube.side a.cube.bytes.now a.z l.invariant (omega arith)
    (omega (arith, l.invariant.fits, l.invariant.size, c.if-room-text.true)) refl c.put_part-bytes-in-loop-next.ensures

pub overflow_sub-text : goal.overflow_sub-text
overflow_sub-text c = omega (arith, c.loop-next.invariant.fits, c.loop-next.invariant.size)

-- The listing is whole, of the text that was lent, where it does not go on.
pub returns-else-room-text : goal.returns-else-room-text
returns-else-room-text c =
    let a = c.args in
    no_more a.cube.side a.cube.bytes.now a.z c.loop-next.invariant (λ l room. omega (arith, room, c.if-room-text.false))

pub returns-after-loop-next : goal.returns-after-loop-next
returns-after-loop-next c =
    let a = c.args in
    no_more a.cube.side a.cube.bytes.now a.z c.loop-next.invariant (λ l room. omega (arith, l, c.loop-next-test.false))
