-- The channels of a hue in range, a saturation and a value from 0 to 1 lie from 0 to 1, whatever the rounding.
use mathlib.Core.Path.{◌≡◌, refl, sym, ap, subst}
use Prim.Native.Nat.{ℕ, zero, suc}
use mathlib.Core.Bool.{false, not}
use borrow.Author.Tests.{not-false}
use lib.Dec.{T}
use lib.Ieee.{Float, nan, inf, fin, binary32, sub, mul}
use Rattle.decide.specs.Refusal.{first_that, accepted}
use Rattle.decide.proofs.Truth.{true_of}
use Rattle.decide.proofs.FirstThat.{accepted_none, accepted_append_three}
use Rattle.channel.specs.Channel.{in_range, infinite_or_nan, one32, channel_refusals}
use Rattle.channel.specs.Rgb.{AllInRange}
use Rattle.channel.proofs.Range.{channel_in_range}
use Rattle.hsv.specs.declared.Hsv.{Hsv}
use Rattle.hsv.specs.Hue.{hue_in_range, hue_refusals, hsv_refusals, HsvInRange}
use Rattle.hsv.specs.Channels.{fractional_part, whole_part, p_of, q_of, r_of, row, hsv_channels}
use Rattle.hsv.proofs.Rounds.{mul_range, one_less_range}
use Rattle.hsv.proofs.Hue.{hue_nonneg, fraction_range}

-- p.
pub p_range : (v s : Float) → T (in_range v) → T (in_range s) → T (in_range (p_of v s))
p_range v s h k = mul_range v (sub binary32 one32 s) h (one_less_range s k)

-- q, which is p with s × f for s.
pub q_range : (v s f : Float) → T (in_range v) → T (in_range s) → T (in_range f) → T (in_range (q_of v s f))
q_range v s f h k l = p_range v (mul binary32 s f) h (mul_range s f k l)

-- r, which is q with 1 - f for f.
pub r_range : (v s f : Float) → T (in_range v) → T (in_range s) → T (in_range f) → T (in_range (r_of v s f))
r_range v s f h k l = q_range v s (sub binary32 one32 f) h k (one_less_range f l)

-- A row of four values from 0 to 1.
row_range : (k : ℕ) (v p q r : Float) → T (in_range v) → T (in_range p) → T (in_range q) → T (in_range r)
    → AllInRange (row k v p q r)
row_range zero v p q r a b c d = record { red = a; green = d; blue = b }
row_range (suc zero) v p q r a b c d = record { red = c; green = a; blue = b }
row_range (suc (suc zero)) v p q r a b c d = record { red = b; green = a; blue = d }
row_range (suc (suc (suc zero))) v p q r a b c d = record { red = b; green = c; blue = a }
row_range (suc (suc (suc (suc zero)))) v p q r a b c d = record { red = d; green = b; blue = a }
row_range (suc (suc (suc (suc (suc zero))))) v p q r a b c d = record { red = a; green = b; blue = c }
row_range (suc (suc (suc (suc (suc (suc k)))))) v p q r a b c d = record { red = a; green = a; blue = a }

-- All three channels lie in 0 to 1.
pub channels_in_range : (w : Hsv) → HsvInRange w → AllInRange (hsv_channels w)
channels_in_range w h =
    let v = w.value in
    let s = w.saturation in
    let f = fractional_part w.hue in
    let F = fraction_range w.hue h.hue in
    row_range (whole_part w.hue) v (p_of v s) (q_of v s f) (r_of v s f) h.value
    (p_range v s h.value h.saturation) (q_range v s f h.value h.saturation F)
    (r_range v s f h.value h.saturation F)

-- A hue with no refusal is in range.
hue_in_range_lem : (h : Float) → first_that (hue_refusals h) ≡ accepted → T (hue_in_range h)
hue_in_range_lem h e =
    let r = (accepted_none (hue_refusals h)).0 e in
    subst T (sym (not-false (hue_in_range h) r.1.0)) tt

-- A hue in range is finite.
hue_finite : (h : Float) → T (hue_in_range h) → infinite_or_nan h ≡ false
hue_finite nan u = absurd (hue_nonneg nan u)
hue_finite (inf s) u = absurd (hue_nonneg (inf s) u)
hue_finite (fin s m e) u = refl

-- It has no refusal.
pub hue_accepted : (h : Float) → T (hue_in_range h) → first_that (hue_refusals h) ≡ accepted
hue_accepted h u =
    (accepted_none (hue_refusals h)).1 (hue_finite h u, (ap not (true_of (hue_in_range h) u), tt))

-- Hue, saturation and value with no refusal are in range.
pub hsv_in_range : (w : Hsv) → first_that (hsv_refusals w) ≡ accepted → HsvInRange w
hsv_in_range w e =
    let r =
    accepted_append_three (hue_refusals w.hue) (channel_refusals w.saturation) (channel_refusals w.value) e in
    record {
      hue = hue_in_range_lem w.hue r.0;
      saturation = channel_in_range w.saturation r.1;
      value = channel_in_range w.value r.2;
    }
