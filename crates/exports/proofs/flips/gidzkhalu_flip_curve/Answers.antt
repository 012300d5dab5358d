-- `gidzkhalu_flip_curve` meets its contract: the two lengths are judged, then the flip is written.
use Rattle.std.proofs.Common.{rules}
use mathlib.Core.Path.{◌≡◌, refl, ◌∙◌, ap}
use mathlib.Core.List.{List}
use Prim.Native.Nat.{ℕ}
use native.Mathlib.Omega.{arith}
use lib.ListN.{length}
use Rattle.flip.specs.Flip.{reversed}
use Rattle.exports.proofs.Small.{reads}
use Rattle.exports.proofs.Calls.{flip_51, flip_52, flip_passes, flip_refused, flip_done}
use Rattle.exports.proofs.flips.gidzkhalu_flip_curve.Goals as goal

pub returns-in_default : goal.returns-in_default
returns-in_default c =
    let s = c.args in
    flip_refused 12 s.points.now _ reversed (flip_51 12 s.points.now s.flipped.now (search rules)) (reads c.refused.ensures)

pub returns-then-flipped-ne12 : goal.returns-then-flipped-ne12
returns-then-flipped-ne12 c =
    let s = c.args in
    flip_refused 12 s.points.now _ reversed
    (flip_52 12 s.points.now s.flipped.now (search rules) c.if-flipped-ne12.true)
    (reads c.refused-then-flipped-ne12.ensures)

pub returns : goal.returns
returns c =
    let s = c.args in
    let passes = flip_passes 12 s.points.now s.flipped.now (search rules) (omega (arith, c.if-flipped-ne12.false)) in
    let same : ◌≡◌ {A = List ℕ} c.in-Ok.points.now s.points.now = search rules in
    flip_done 12 s.points.now _ reversed passes (c.reverse.ensures ∙ ap reversed same) refl
