-- `Axis::start` meets its contract: the product of a stride and a coordinate fits.
use borrow.Author.Rules.{rules}
use lib.Dec.{lit<}
use mir.Syntax.{w64}
use mir.Val.{SFits}
use mir.Facts.{to_z-of_z}
use Rattle.cubic.specs.Axis.{start_of}
use Rattle.cubic.proofs.Fits.{held, mul}
use Rattle.cubic.proofs.axis.Axis.start.Goals as goal

pub returns : goal.returns
unfolding start_of
returns c =
    let s = c in
    let at = mul (held s.requires.stride (lit< tt)) (held s.requires.point (lit< tt)) (lit< tt) in
    let f1 : SFits w64 s.args.c.d1 = search rules in
    let f2 : SFits w64 s.args.c.d2 = search rules in
    let f3 : SFits w64 s.args.c.d3 = search rules in
    rw (at.same, to_z-of_z f1, to_z-of_z f2, to_z-of_z f3)
