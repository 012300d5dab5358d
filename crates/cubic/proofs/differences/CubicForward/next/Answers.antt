-- `Cubic::next` meets its contract: the sum of two fields fits.
use mathlib.Core.Path.{refl}
use lib.Dec.{lit<}
use Rattle.cubic.specs.Differences.{next_of}
use Rattle.cubic.proofs.Next.{same_fields}
use Rattle.cubic.proofs.Fits.{held, add}
use Rattle.cubic.proofs.differences.CubicForward.next.Goals as goal

pub returns : goal.returns
unfolding next_of
returns c =
    let p = c.requires in
    let value = add (held p.value (lit< tt)) (held p.d1 (lit< tt)) (lit< tt) in
    let d1 = add (held p.d1 (lit< tt)) (held p.d2 (lit< tt)) (lit< tt) in
    let d2 = add (held p.d2 (lit< tt)) (held p.d3 (lit< tt)) (lit< tt) in
    same_fields value.same d1.same d2.same refl
