-- A channel has no refusal exactly where it lies from 0 to 1: past 31 it is finite, and past 32 neither below 0 nor above
-- 1.
use mathlib.Core.Path.{◌≡◌, refl, sym, ap, ◌∙◌, subst}
use mathlib.Core.Bool.{Bool, true, false, not, ◌&&◌}
use mathlib.Core.List.{◌++◌}
use Prim.Native.Nat.{◌+◌, ◌*◌, ◌≤◌}
use native.Mathlib.Omega.{arith}
use borrow.Author.Tests.{ltb-false, le-ltb, not-false}
use lib.Dec.{T}
use lib.Ieee.{Float, nan, inf, fin, up, down, lt}
use lib.Ieee.Fits.{up_pos}
use lib.Ieee.Scale.{finite}
use Rattle.std.specs.Float.{float_is_finite}
use Rattle.decide.specs.Refusal.{first_that, accepted}
use Rattle.decide.proofs.Truth.{both, both_false}
use Rattle.decide.proofs.FirstThat.{accepted_none, append_passes}
use Rattle.channel.specs.Channel.{zero32, one32, in_range, infinite_or_nan, outside, channel_refusals}
use Rattle.channel.specs.declared.Rgb.{Rgb}
use Rattle.channel.specs.Rgb.{rgb_refusals}
use Rattle.channel.proofs.Order.{zero_size, size_zero, range_of, range_nonneg, range_le_one}

-- The language's test of finite values is the definition's.
pub no_finite : (v : Float) {b : Bool} → float_is_finite v ≡ b → infinite_or_nan v ≡ not b
unfolding float_is_finite
no_finite nan e = ap not e
no_finite (inf s) e = ap not e
no_finite (fin s m e) h = ap not h

-- A finite value that is not outside lies from 0 to 1.
inside : (v : Float) → T (finite v) → outside v ≡ false → T (in_range v)
unfolding outside
inside nan F h = absurd F
inside (inf s) F h = absurd F
inside (fin true m e) F h =
    let r = both_false (lt (fin true m e) zero32) (lt one32 (fin true m e)) h in
    let a : m * up e * 1 + 0 * down e ≤ 0 = ltb-false 0 (m * up e * 1 + 0 * down e) r.0 in
    range_of (fin true m e) (λ k. size_zero m (up e) (up_pos e) (omega arith)) (omega arith)
inside (fin false m e) F h =
    let r = both_false (lt (fin false m e) zero32) (lt one32 (fin false m e)) h in
    let a : m * up e * 1 ≤ 1 * down e = ltb-false (1 * down e) (m * up e * 1) r.1 in
    range_of (fin false m e) (λ k. absurd k) (omega arith)

-- A finite value that does not lie from 0 to 1 is outside.
pub refused_outside : (v : Float) → infinite_or_nan v ≡ false → in_range v ≡ false → outside v ≡ true
refused_outside v F h = go (outside v) refl
  where
    go : (b : Bool) → outside v ≡ b → b ≡ true
    go true e = refl
    go false e = absurd (subst T h (inside v (subst T (sym (not-false (finite v) F)) tt) e))

-- A value from 0 to 1 is finite.
range_finite : (v : Float) → T (in_range v) → infinite_or_nan v ≡ false
range_finite nan h = absurd (range_nonneg nan h)
range_finite (inf s) h = absurd (range_nonneg (inf s) h)
range_finite (fin s m e) h = refl

-- It is not outside.
not_outside : (v : Float) → T (in_range v) → outside v ≡ false
unfolding outside
not_outside nan h = absurd (range_nonneg nan h)
not_outside (inf s) h = absurd (range_nonneg (inf s) h)
not_outside (fin true m e) h =
    let z = zero_size m (up e) 1 (range_nonneg (fin true m e) h tt) in
    rw (le-ltb 0 (m * up e * 1 + 0 * down e) (omega arith))
not_outside (fin false m e) h =
    let l = range_le_one (fin false m e) h in
    rw (le-ltb (m * up e * 1) (0 * down e) (omega arith), le-ltb (1 * down e) (m * up e * 1) (omega arith))

-- It has no refusal.
pub range_accepted : (v : Float) → T (in_range v) → first_that (channel_refusals v) ≡ accepted
range_accepted v h = (accepted_none (channel_refusals v)).1 (range_finite v h, (not_outside v h, tt))

-- A channel with no refusal lies from 0 to 1.
pub channel_in_range : (v : Float) → first_that (channel_refusals v) ≡ accepted → T (in_range v)
channel_in_range v h =
    let r = (accepted_none (channel_refusals v)).0 h in
    inside v (subst T (sym (not-false (finite v) r.0)) tt) r.1.0

-- Three channels from 0 to 1 have no refusal.
pub rgb_accepted : (c : Rgb) → (in_range c.red && in_range c.green && in_range c.blue) ≡ true
    → first_that (rgb_refusals c) ≡ accepted
rgb_accepted c e =
    let h = (both (in_range c.red && in_range c.green) (in_range c.blue)).0 (subst T (sym e) tt) in
    let k = (both (in_range c.red) (in_range c.green)).0 h.0 in
    let blues = channel_refusals c.blue in
    append_passes (channel_refusals c.red) (channel_refusals c.green ++ blues) (range_accepted c.red k.0)
    ∙ append_passes (channel_refusals c.green) blues (range_accepted c.green k.1)
    ∙ range_accepted c.blue h.1
