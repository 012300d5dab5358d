-- Signed answers as the machine holds them.
use mathlib.Core.Path.{◌≡◌, refl, ◌∙◌}
use Prim.Native.Nat.{ℕ, ◌^◌, ◌<◌}
use native.Mathlib.Nat.{le_of_lt}
use lib.Dec.{lit<}
use lib.IntN.{ℤ, pos}
use Rattle.integers.specs.Magnitude.{Within}
use Rattle.integers.proofs.Magnitude.{within_pos}
use Rattle.cubic.proofs.Fits.{read, held, literal, sub}
use Rattle.scan.proofs.Natural.{natural_held}
use Rattle.exports.specs.Signed.{minus}

-- A count and a number of 32 bits are small.
pub count_small : {n : ℕ} → n < 2 ^ 32 → Within (2 ^ 32) (pos n)
count_small h = within_pos (le_of_lt h)

pub number_small : {k : ℕ} → k < 2 ^ 32 → Within (2 ^ 32) (minus k)
number_small h = (sub (literal 0) (natural_held {r = pos _} refl (le_of_lt h) (lit< tt)) (lit< tt)).size

-- What is small reads back, and is still small.
pub small_read : {r z : ℤ} → r ≡ z → Within (2 ^ 32) r → (read r ≡ z) × Within (2 ^ 32) (read r)
small_read e w = let same = (held w (lit< tt)).same in (same ∙ e, rw same w)

-- A small answer, as it is handed on.
pub reads : {r z : ℤ} → (r ≡ z) × Within (2 ^ 32) r → read r ≡ z
reads p = (small_read p.0 p.1).0
