-- `gidzkhalu_flip_patch` meets its contract: the two lengths are judged, then the flip is written.
use Rattle.std.proofs.Common.{rules}
use mathlib.Core.Path.{◌≡◌, refl, ◌∙◌, ap}
use mathlib.Core.List.{List}
use Prim.Native.Nat.{ℕ}
use native.Mathlib.Omega.{arith}
use lib.ListN.{length}
use Rattle.flip.specs.Flip.{exchanged}
use Rattle.exports.proofs.Small.{reads}
use Rattle.exports.proofs.Calls.{flip_51, flip_52, flip_passes, patch_flip_refused, patch_flip_done}
use Rattle.exports.proofs.flips.gidzkhalu_flip_patch.Goals as goal

pub returns-in_default : goal.returns-in_default
returns-in_default c =
    let s = c.args in
    patch_flip_refused s.points.now _ _ _ (flip_51 48 s.points.now s.flipped.now (search rules)) (reads c.refused.ensures)

pub returns-then-flipped-ne48 : goal.returns-then-flipped-ne48
returns-then-flipped-ne48 c =
    let s = c.args in
    patch_flip_refused s.points.now _ _ _
    (flip_52 48 s.points.now s.flipped.now (search rules) c.if-flipped-ne48.true)
    (reads c.refused-then-flipped-ne48.ensures)

pub returns : goal.returns
returns c =
    let s = c.args in
    let passes = flip_passes 48 s.points.now s.flipped.now (search rules) (omega (arith, c.if-flipped-ne48.false)) in
    let same : ◌≡◌ {A = List ℕ} c.in-Ok.points.now s.points.now = search rules in
    patch_flip_done s.points.now s.n.now s.m.now _ passes (c.exchange.ensures ∙ ap exchanged same)
    c.swap.ensures.x_after c.swap.ensures.y_after refl
