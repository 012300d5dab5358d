-- Saturation 0 gives the grey of the value; minus zero is hue 0; 6 is out of range, and the f32 just below it has k = 5.
use mathlib.Core.Path.{◌≡◌, refl, ap, ◌∙◌}
use Prim.Native.Nat.{ℕ, zero, suc, ◌-◌, ◌*◌, ◌<◌}
use native.Mathlib.Nat.{zero-mul, mul-pos}
use native.Mathlib.Omega.{arith}
use mathlib.Core.Bool.{Bool, true, false}
use lib.IntN.{ℤ}
use lib.Dec.{T, lit<}
use lib.Ieee.{Float, nan, inf, fin, up, down, binary32, of_bits, round, sub, mul, of_int, fits}
use lib.Ieee.Fits.{down_pos, round-fits}
use lib.Ieee.Scale.{round_same}
use lib.Ieee.Positive.{num, den, den_pos}
use Rattle.channel.specs.Channel.{in_range, zero32, one32}
use Rattle.channel.specs.HalfWay.{minus_zero32}
use Rattle.channel.specs.Rgb.{rgb}
use Rattle.channel.proofs.Order.{NonNegative, size_zero, range_nonneg}
use Rattle.channel.proofs.Held.{channel_held, held_value}
use Rattle.hsv.specs.declared.Hsv.{Hsv}
use Rattle.hsv.specs.Hue.{six32, hue_in_range, HsvInRange}
use Rattle.hsv.specs.Channels.{whole_part, fractional_part, p_of, q_of, row, hsv_channels}
use Rattle.hsv.proofs.Rounds.{
  Rounds,
  round_one,
  zero_held,
  held_times,
  rounds_exact,
  mul_rounds,
  sub_rounds,
  mul_range,
  one_less_range,
}
use Rattle.hsv.proofs.Hue.{fraction_range}
use Rattle.hsv.proofs.Canonical.{value_unique}

-- A channel rounded with its own sign is itself.
round_own : (s : Bool) (m : ℕ) (e : ℤ) → T (fits binary32 (fin s m e)) → T (in_range (fin s m e))
    → round binary32 s (m * up e * 1) (down e * 1) ≡ fin s m e
round_own s m e F u =
    let n = m * up e in
    let d = down e in
    let r = round binary32 s (n * 1) (d * 1) in
    let D = mul-pos (down_pos e) (lit< tt) in
    value_unique r (fin s m e) s (n * 1) (d * 1) D (round-fits binary32 s (n * 1) (d * 1)) F
    (held_value s (n * 1) (d * 1) D (held_times n d (n * 1) (d * 1) 1 refl refl (channel_held (fin s m e) F u)))
    (refl, omega arith)

-- A channel times 1 is itself.
times_one : (v : Float) → T (fits binary32 v) → T (in_range v) → mul binary32 v one32 ≡ v
unfolding mul
times_one nan F u = absurd (range_nonneg nan u)
times_one (inf s) F u = absurd (range_nonneg (inf s) u)
times_one (fin true m e) F u = round_own true m e F u
times_one (fin false m e) F u = round_own false m e F u

-- What rounds a fraction above 0 has no minus.
rounds_plus : (r : Float) (n c : ℕ) → 0 < n → Rounds r n c → r ≡ round binary32 false n c
rounds_plus r n c p R = R.rounded ∙ ap (λ s. round binary32 s n c) (go R.minus R.zero)
  where
    go : (s : Bool) → (T s → n ≡ 0) → s ≡ false
    go true z = absurd (no (z tt))
      where
        no : n ≡ 0 → ⊥
        no e = omega arith
    go false z = refl

-- 1 less 0 is 1.
one_less_zero : (x : Float) → NonNegative x → num x ≡ 0 → sub binary32 one32 x ≡ one32
one_less_zero x p z =
    let d = den x in
    let D = den_pos x in
    let n = 1 * d - num x * 1 in
    let R = sub_rounds one32 x (λ k. absurd k) p (omega arith) in
    rounds_plus (sub binary32 one32 x) n (1 * d) (omega arith) R
    ∙ round_same binary32 false n (1 * d) 1 1 (omega arith) (lit< tt) (omega arith) ∙ round_one

-- 0 times a value from 0 up is 0.
zero_times : (x y : Float) → NonNegative x → NonNegative y → num x ≡ 0 → num (mul binary32 x y) ≡ 0
zero_times x y p q z =
    let n = num x * num y in
    let c = den x * den y in
    let C = mul-pos (den_pos x) (den_pos y) in
    let e : n ≡ 0 = ap (λ (k : ℕ). k * num y) z ∙ zero-mul (num y) in
    let r = mul binary32 x y in
    size_zero (num r) c C
    (rounds_exact r n c C (zero_held n c e) (mul_rounds x y p q) ∙ ap (λ (k : ℕ). k * den r) e ∙ zero-mul (den r))

-- p is v where s is 0.
p_is_value : (v s : Float) → T (fits binary32 v) → T (in_range v) → NonNegative s → num s ≡ 0 → p_of v s ≡ v
p_is_value v s F u p z = ap (mul binary32 v) (one_less_zero s p z) ∙ times_one v F u

-- So is q, which is p with s × f for s.
q_is_value : (v s f : Float) → T (fits binary32 v) → T (in_range v) → T (in_range s) → num s ≡ 0 → T (in_range f)
    → q_of v s f ≡ v
q_is_value v s f F u h z k =
    p_is_value v (mul binary32 s f) F u (range_nonneg (mul binary32 s f) (mul_range s f h k))
    (zero_times s f (range_nonneg s h) (range_nonneg f k) z)

-- Four equal values give three.
row_equal : (k : ℕ) (v : Float) → row k v v v v ≡ rgb v v v
row_equal zero v = refl
row_equal (suc zero) v = refl
row_equal (suc (suc zero)) v = refl
row_equal (suc (suc (suc zero))) v = refl
row_equal (suc (suc (suc (suc zero)))) v = refl
row_equal (suc (suc (suc (suc (suc zero))))) v = refl
row_equal (suc (suc (suc (suc (suc (suc k)))))) v = refl

-- A grey desk setting, s = 0, gives three equal channels v.
pub saturation_zero : (w : Hsv) → T (fits binary32 w.value) → HsvInRange w → num w.saturation ≡ 0
    → hsv_channels w ≡ rgb w.value w.value w.value
saturation_zero w F h z =
    let v = w.value in
    let s = w.saturation in
    let f = fractional_part w.hue in
    let R = fraction_range w.hue h.hue in
    let p = p_is_value v s F h.value (range_nonneg s h.saturation) z in
    let q = q_is_value v s f F h.value h.saturation z R in
    let r = q_is_value v s (sub binary32 one32 f) F h.value h.saturation z (one_less_range f R) in
    rw (p, q, r) (row_equal (whole_part w.hue) v)

-- Minus zero is hue 0.
pub minus_zero_hue : (s v : Float)
    → hsv_channels (record { hue = minus_zero32; saturation = s; value = v })
    ≡ hsv_channels (record { hue = zero32; saturation = s; value = v })
unfolding sub of_int
minus_zero_hue s v = refl

-- It is in range.
pub minus_zero_in_range : hue_in_range minus_zero32 ≡ true
unfolding hue_in_range
minus_zero_in_range = refl

-- 6 is out of range.
pub six_out_of_range : hue_in_range six32 ≡ false
unfolding hue_in_range
six_out_of_range = refl

-- The f32 just below 6 is in range.
pub below_six_in_range : hue_in_range (of_bits binary32 0x40bf_ffff) ≡ true
unfolding hue_in_range of_bits
below_six_in_range = refl

-- It has k = 5.
pub below_six_whole_part : whole_part (of_bits binary32 0x40bf_ffff) ≡ 5
unfolding of_bits
below_six_whole_part = refl
