-- `answer_block` is safe: as many records as there are have a place for their answers.
use Rattle.std.proofs.Common.{arith, ℕ, ◌≤◌, ◌<◌, ◌*◌, ◌/◌, length-take}
use Rattle.std.proofs.Math.Nat.{le-div_iff_mul-le, mul-le-mul_right}
use Rattle.cases.proofs.block.answer_block.Goals as goal

fit : (count width bytes answer room : ℕ) → 1 < width → count * width ≤ bytes → bytes / width * answer ≤ room → count * answer ≤ room
fit count width bytes answer room some within enough =
    let most : count ≤ bytes / width = (le-div_iff_mul-le {k = width} (omega arith)).1 within in
    omega (arith, mul-le-mul_right answer most)

pub overflow_mul-places : goal.overflow_mul-places
overflow_mul-places g c =
    let read = c.read_records-block in
    omega (arith, fit read.result.count g.row.CASE _ g.row.ANSWER _ c.requires.case.0 read.ensures.within c.requires.room)

pub slice_bounds-places-end : goal.slice_bounds-places-end
slice_bounds-places-end g c =
    let read = c.read_records-block in
    fit read.result.count g.row.CASE _ g.row.ANSWER _ c.requires.case.0 read.ensures.within c.requires.room

pub slice_bounds-places-end-2 : goal.slice_bounds-places-end-2
slice_bounds-places-end-2 g c =
    let read = c.read_records-block in
    simp length-take (omega (arith, fit read.result.count g.row.CASE _ g.row.ANSWER _ c.requires.case.0 read.ensures.within c.requires.room))
