-- `channels` meets its contract: the tests find k, and the operations are the definition's.
use mathlib.Core.Path.{◌≡◌, refl, sym}
use Prim.Native.Nat.{ℕ, ◌+◌, ◌*◌, ◌≤◌, ◌<◌}
use native.Mathlib.Nat.{div-eq_of_lt-le}
use native.Mathlib.Omega.{arith}
use mathlib.Core.Bool.{Bool, true, false}
use lib.IntN.{pos}
use lib.Dec.{T}
use lib.Ieee.{Float, binary32, of_bits, sub, of_int, lt}
use lib.Ieee.Exact.{HasValue}
use lib.Ieee.Positive.{num, den}
use Rattle.hsv.specs.declared.Hsv.{Hsv}
use Rattle.hsv.specs.Hue.{hue_in_range}
use Rattle.hsv.specs.Channels.{p_of, q_of, r_of, row, hsv_channels}
use Rattle.hsv.proofs.Hue.{Told, whole_told, hue_nonneg, hue_below_six}
use Rattle.hsv.proofs.Hsv.channels.Goals as goal

-- The channels by the row k, where k ≤ h < k + 1.
in_row : (w : Hsv) (k : ℕ) → k * den w.hue ≤ num w.hue → num w.hue < (k + 1) * den w.hue
    → hsv_channels w
    ≡ (let v = w.value in
    let s = w.saturation in
    let f = sub binary32 w.hue (of_int binary32 (pos k)) in
    row k v (p_of v s) (q_of v s f) (r_of v s f))
in_row w k l g = rw (div-eq_of_lt-le (den w.hue) l g)

-- What the test of an accepted hue h against the f32 x tells, where x is the whole number k.
told : (h x : Float) (k : ℕ) (r : Bool) → T (hue_in_range h) → HasValue x false k 1 → lt h x ≡ r
    → Told r (num h) (k * den h)
told h x k r a = whole_told h x k r (hue_nonneg h a)

pub returns-then-h : goal.returns-then-h
unfolding of_bits of_int
returns-then-h c =
    let w = c.args.self in
    rw (c.new.ensures, c.r_of.ensures)
    (sym
    (in_row w 0 (omega arith)
    (told w.hue _ 1 true c.requires (refl, refl) c.if-h.true)))

pub returns-then-h-2 : goal.returns-then-h-2
unfolding of_bits of_int
returns-then-h-2 c =
    let w = c.args.self in
    rw (c.new-then-h-2.ensures, c.q_of.ensures)
    (sym
    (in_row w 1 (told w.hue _ 1 false c.requires (refl, refl) c.if-h.false)
    (told w.hue _ 2 true c.requires (refl, refl) c.if-h-2.true)))

pub returns-then-h-3 : goal.returns-then-h-3
unfolding of_bits of_int
returns-then-h-3 c =
    let w = c.args.self in
    rw (c.new-then-h-3.ensures, c.r_of-then-h-3.ensures)
    (sym
    (in_row w 2 (told w.hue _ 2 false c.requires (refl, refl) c.if-h-2.false)
    (told w.hue _ 3 true c.requires (refl, refl) c.if-h-3.true)))

pub returns-then-h-4 : goal.returns-then-h-4
unfolding of_bits of_int
returns-then-h-4 c =
    let w = c.args.self in
    rw (c.new-then-h-4.ensures, c.q_of-then-h-4.ensures)
    (sym
    (in_row w 3 (told w.hue _ 3 false c.requires (refl, refl) c.if-h-3.false)
    (told w.hue _ 4 true c.requires (refl, refl) c.if-h-4.true)))

pub returns-then-h-5 : goal.returns-then-h-5
unfolding of_bits of_int
returns-then-h-5 c =
    let w = c.args.self in
    rw (c.new-then-h-5.ensures, c.r_of-then-h-5.ensures)
    (sym
    (in_row w 4 (told w.hue _ 4 false c.requires (refl, refl) c.if-h-4.false)
    (told w.hue _ 5 true c.requires (refl, refl) c.if-h-5.true)))

pub returns-else-h-5 : goal.returns-else-h-5
unfolding of_bits of_int
returns-else-h-5 c =
    let w = c.args.self in
    rw (c.new-else-h-5.ensures, c.q_of-else-h-5.ensures)
    (sym
    (in_row w 5 (told w.hue _ 5 false c.requires (refl, refl) c.if-h-5.false)
    (hue_below_six w.hue c.requires)))
