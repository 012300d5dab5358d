-- `long_between` meets its contract: no step that was passed is too long, and the first that is ends the search.
use borrow.Author.Count.{below_more}
use mathlib.Core.Path.{◌≡◌, sym, ◌∙◌, ap}
use mathlib.Core.Bool.{Bool}
use Prim.Native.Nat.{ℕ, ◌*◌, ◌<◌}
use native.Mathlib.Numerals.{add-one}
use native.Mathlib.Omega.{arith}
use lib.Dec.{lit<}
use lib.IntN.{ℤ, pos}
use Rattle.cubic.specs.Axis.{long_of}
use Rattle.cubic.specs.Differences.{Cubic, differences_at, next_of}
use Rattle.cubic.proofs.Closed.{samples_cubic}
use Rattle.cubic.proofs.Next.{next_differences}
use Rattle.cubic.proofs.Fits.{read, held}
use Rattle.curve.specs.declared.Curve.{Curve}
use Rattle.curve.specs.Machine.{InLimits, doubled_along, long_at}
use Rattle.curve.proofs.Along.{scale_held, along_room}
use Rattle.curve.proofs.Search.{between_found, between_nowhere}
use Rattle.curve.proofs.steps.long_between.Goals as goal

-- The test is that of the present step.
tests : {curve : Curve} (p : InLimits curve) (a i : ℕ) → a < 3 → i < curve.steps → {scale : ℤ} {d : Cubic} {long : Bool} →
    scale ≡ pos (curve.steps * curve.steps * curve.steps) → d ≡ differences_at (doubled_along curve a) i →
    long ≡ long_of (read scale) (read d.d1) → long ≡ long_at curve a i
unfolding differences_at
tests p a i h l s e t =
    let room = along_room p a h i (omega arith) in
    rw ((scale_held p s).same, e, (held room.d1 (lit< tt)).same) at t

pub next-c-requires : goal.next-c-requires
next-c-requires c =
    let at = c.loop-curve.invariant in
    rw at.2 (along_room c.requires.in_limits c.search.a (omega arith) c.loop-curve.i (omega arith))

pub loop-curve-preserved : goal.loop-curve-preserved
loop-curve-preserved c =
    let at = c.loop-curve.invariant in
    let t = tests c.requires.in_limits c.search.a c.loop-curve.i (omega arith) at.1 c.cubed-scale.ensures at.2 c.is_long.ensures in (
      at.0,
      omega arith,
      rw add-one (c.next-c.ensures ∙ ap next_of at.2 ∙ next_differences _ c.loop-curve.i (samples_cubic _ _ _ _ _)),
      below_more _ _ at.3 (sym t ∙ c.if-is_long.false),
    )

pub search-preserved : goal.search-preserved
search-preserved c =
    let at = c.loop-curve.invariant in
    let t = tests c.requires.in_limits c.search.a c.loop-curve.i (omega arith) at.1 c.cubed-scale.ensures at.2 c.is_long.ensures in (
      at.0,
      omega arith,
      omega arith,
      below_more _ _ c.search.invariant.3
          (λ from-there k h. below_more _ _ at.3 (sym t ∙ c.if-is_long.false) k (omega (arith, c.if-i-last.true))),
    )

pub returns-after-search : goal.returns-after-search
returns-after-search c =
    c.search.invariant.0 ∙
    sym (between_nowhere c.args.curve _ _ (λ a l h i hi. c.search.invariant.3 a (omega (arith, c.search-test.false, h)) l i hi))

pub returns-then-is_long : goal.returns-then-is_long
returns-then-is_long c =
    let at = c.loop-curve.invariant in
    let t = tests c.requires.in_limits c.search.a c.loop-curve.i (omega arith) at.1 c.cubed-scale.ensures at.2 c.is_long.ensures in
    sym (between_found c.args.curve _ _ c.search.a c.loop-curve.i c.search.invariant.2 c.search-test.true at.1
    (sym t ∙ c.if-is_long.true))
