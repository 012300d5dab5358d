-- `scale` meets its contract: 32³ × 32³ × 32³ fits.
use mathlib.Core.Path.{◌≡◌, sym, ◌∙◌, ap}
use Prim.Native.Nat.{ℕ, ◌*◌, ◌≤◌}
use lib.Dec.{lit<}
use lib.IntN.{ℤ, pos, ◌*ℤ◌}
use Rattle.cubic.proofs.Fits.{Holds, read, mul, mul_fits}
use Rattle.scan.proofs.Natural.{natural_held, cube_grows}
use Rattle.solid.proofs.Along.{scale_is}
use Rattle.solid.proofs.start.scale.Goals as goal

-- An answer that is the cube of a count.
cubed_held : {n : ℕ} {r : ℤ} → n ≤ 32 → r ≡ pos (n * n * n) → Holds 32768 (pos (n * n * n)) (read r)
cubed_held {n} h e = natural_held {k = n * n * n} e (cube_grows h) (lit< tt)

-- The product of two.
two_held : {n m : ℕ} {r q : ℤ} → n ≤ 32 → m ≤ 32 → r ≡ pos (n * n * n) → q ≡ pos (m * m * m) →
    Holds 1073741824 (pos (n * n * n) *ℤ pos (m * m * m)) (read (read r *ℤ read q))
two_held hn hm e f = mul (cubed_held hn e) (cubed_held hm f) (lit< tt)

pub overflow_mul-result : goal.overflow_mul-result
overflow_mul-result c =
    mul_fits (cubed_held c.requires.0 c.cubed.ensures) (cubed_held c.requires.1 c.cubed-2.ensures) (lit< tt)

pub overflow_mul-result-2 : goal.overflow_mul-result-2
overflow_mul-result-2 c =
    mul_fits
    (two_held c.requires.0 c.requires.1 c.cubed.ensures c.cubed-2.ensures)
    (cubed_held c.requires.2 c.cubed-3.ensures) (lit< tt)

pub returns : goal.returns
returns c =
    let two = two_held c.requires.0 c.requires.1 c.cubed.ensures c.cubed-2.ensures in
    (mul two (cubed_held c.requires.2 c.cubed-3.ensures) (lit< tt)).same ∙
    ap pos (sym (scale_is c.args.n c.args.m c.args.l))
