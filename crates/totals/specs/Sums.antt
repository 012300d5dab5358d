-- Sums over places and over the marks that have a line, for the laws on what all lines add up to.
use Rattle.std.specs.Prelude.{List, [], ◌∷◌, ℕ, zero, suc, ◌+◌, ◌<◌, length, get_or}

-- f of so many numbers from one on, summed.
unfoldable pub sum_from : (from many : ℕ) (f : ℕ → ℕ) → ℕ
sum_from p zero f = 0
sum_from p (suc n) f = f p + sum_from (suc p) n f

-- f of each mark, summed.
unfoldable pub sum_of : (f : ℕ → ℕ) (marks : List ℕ) → ℕ
sum_of f [] = 0
sum_of f (m ∷ ms) = f m + sum_of f ms

-- The cube holds bytes.
abbrev pub Bytes : (cube : List ℕ) → Type 0
Bytes cube = (p : ℕ) → p < length cube → get_or cube p 0 < 256
