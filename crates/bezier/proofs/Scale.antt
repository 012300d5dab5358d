-- The scale is not 0, so that what is said over it says something.
use mathlib.Core.List.{List, [], ◌∷◌}
use Prim.Native.Nat.{ℕ, suc, ◌≤◌, ◌<◌}
use native.Mathlib.Nat.{mul-pos}
use native.Mathlib.Omega.{arith}
use lib.Dec.{lit<}
use lib.ListN.{length, get_or}
use Rattle.bezier.specs.Exact.{scale}

-- The scale is not 0 where no step count is.
pub scale_positive : (ns : List ℕ) → ((k : ℕ) → k < length ns → 1 ≤ get_or ns k 0) → 0 < scale ns
unfolding scale
scale_positive [] h = lit< tt
scale_positive (n ∷ ns) h =
    let n_pos : 1 ≤ n = h 0 (omega arith) in
    mul-pos (mul-pos (mul-pos n_pos n_pos) n_pos) (scale_positive ns (λ k l. h (suc k) (omega arith)))
