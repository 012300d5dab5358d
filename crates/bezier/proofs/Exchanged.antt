-- Two parameters that follow one another exchanged, whatever parameters come after them: sample (j, i) has the value of sample
-- (i, j), since a sum of sums does not depend on which is taken first.
use mathlib.Core.Path.{◌≡◌, ◌∙◌}
use mathlib.Core.List.{List, ◌∷◌}
use Prim.Native.Nat.{ℕ, zero, suc, ◌+◌, ◌-◌, ◌*◌, ◌<◌}
use native.Mathlib.Omega.{arith}
use lib.Dec.{lit<}
use Rattle.bezier.specs.Exact.{blend, points, value}
use Rattle.bezier.proofs.Mean.{value_same}

-- A weight of four terms goes to each, whichever of its two weights comes first.
weight_first : (w : ℕ) (v g : ℕ → ℕ) →
    w * (v 0 * g 0 + v 1 * g 1 + v 2 * g 2 + v 3 * g 3) ≡ w * v 0 * g 0 + w * v 1 * g 1 + w * v 2 * g 2 + w * v 3 * g 3
weight_first w v g = omega arith

weight_last : (w : ℕ) (v g : ℕ → ℕ) →
    w * (v 0 * g 0 + v 1 * g 1 + v 2 * g 2 + v 3 * g 3) ≡ v 0 * w * g 0 + v 1 * w * g 1 + v 2 * w * g 2 + v 3 * w * g 3
weight_last w v g = omega arith

-- Sixteen terms, added up by rows and by columns.
rows_or_columns : (t : ℕ → ℕ → ℕ) →
    (t 0 0 + t 0 1 + t 0 2 + t 0 3) + (t 1 0 + t 1 1 + t 1 2 + t 1 3) + (t 2 0 + t 2 1 + t 2 2 + t 2 3) +
    (t 3 0 + t 3 1 + t 3 2 + t 3 3) ≡
    (t 0 0 + t 1 0 + t 2 0 + t 3 0) + (t 0 1 + t 1 1 + t 2 1 + t 3 1) + (t 0 2 + t 1 2 + t 2 2 + t 3 2) +
    (t 0 3 + t 1 3 + t 2 3 + t 3 3)
rows_or_columns t = omega arith

-- The same with weights w of the rows and v of the columns.
by_columns : (w v : ℕ → ℕ) (f : ℕ → ℕ → ℕ) →
    w 0 * (v 0 * f 0 0 + v 1 * f 0 1 + v 2 * f 0 2 + v 3 * f 0 3) + w 1 * (v 0 * f 1 0 + v 1 * f 1 1 + v 2 * f 1 2 + v 3 * f 1 3) +
    w 2 * (v 0 * f 2 0 + v 1 * f 2 1 + v 2 * f 2 2 + v 3 * f 2 3) + w 3 * (v 0 * f 3 0 + v 1 * f 3 1 + v 2 * f 3 2 + v 3 * f 3 3) ≡
    v 0 * (w 0 * f 0 0 + w 1 * f 1 0 + w 2 * f 2 0 + w 3 * f 3 0) + v 1 * (w 0 * f 0 1 + w 1 * f 1 1 + w 2 * f 2 1 + w 3 * f 3 1) +
    v 2 * (w 0 * f 0 2 + w 1 * f 1 2 + w 2 * f 2 2 + w 3 * f 3 2) + v 3 * (w 0 * f 0 3 + w 1 * f 1 3 + w 2 * f 2 3 + w 3 * f 3 3)
by_columns w v f =
    rw (
      weight_first (w 0) v (f 0),
      weight_first (w 1) v (f 1),
      weight_first (w 2) v (f 2),
      weight_first (w 3) v (f 3),
      weight_last (v 0) w (λ k. f k 0),
      weight_last (v 1) w (λ k. f k 1),
      weight_last (v 2) w (λ k. f k 2),
      weight_last (v 3) w (λ k. f k 3),
    )
    (rows_or_columns (λ k l. w k * v l * f k l))

-- The Bernstein weights by their numbers.
abbrev weight : (n i k : ℕ) → ℕ
weight n i zero = (n - i) * (n - i) * (n - i)
weight n i (suc zero) = 3 * i * (n - i) * (n - i)
weight n i (suc (suc zero)) = 3 * i * i * (n - i)
weight n i (suc (suc (suc k))) = i * i * i

-- Four control values by their numbers.
abbrev blended : (n i : ℕ) (g : ℕ → ℕ) → ℕ
blended n i g = blend n i (g 0) (g 1) (g 2) (g 3)

module _ (n i m j : ℕ) where
  blend_exchanged : (f : ℕ → ℕ → ℕ) → blended n i (λ k. blended m j (λ l. f k l)) ≡ blended m j (λ l. blended n i (λ k. f k l))
  unfolding blend
  blend_exchanged f =
      by_columns (weight n i) (weight m j) f

-- Values that agree at the four numbers.
blend_same : (n i : ℕ) (g h : ℕ → ℕ) → ((k : ℕ) → k < 4 → g k ≡ h k) → blended n i g ≡ blended n i h
blend_same n i g h e = rw (e 0 (lit< tt), e 1 (lit< tt), e 2 (lit< tt), e 3 (lit< tt))

-- The control values h are g with the two indices exchanged, where each pair of them has so many points.
abbrev pub Exchanged : (so_many : ℕ) (g h : ℕ → ℕ) → Type 0
Exchanged so_many g h =
    (k l : ℕ) → k < 4 → l < 4 → (p : ℕ) → p < so_many →
    g (k * (4 * so_many) + (l * so_many + p)) ≡ h (l * (4 * so_many) + (k * so_many + p))

pub value_exchanged : (n m : ℕ) (ns : List ℕ) (g h : ℕ → ℕ) → Exchanged (points ns) g h → (i j : ℕ) (is : List ℕ) →
    value (n ∷ m ∷ ns) g (i ∷ j ∷ is) ≡ value (m ∷ n ∷ ns) h (j ∷ i ∷ is)
unfolding value points
value_exchanged n m ns g h e i j is =
    let q : ℕ = points ns in
    let there : ℕ → ℕ → ℕ = λ k l. value ns (λ p. g (k * (4 * q) + (l * q + p))) is in
    let back : ℕ → ℕ → ℕ = λ k l. value ns (λ p. h (l * (4 * q) + (k * q + p))) is in
    blend_exchanged n i m j there ∙
    blend_same m j (λ l. blended n i (λ k. there k l)) (λ l. blended n i (λ k. back k l))
    (λ l hl. blend_same n i (λ k. there k l) (λ k. back k l)
    (λ k hk. value_same ns is (λ p. g (k * (4 * q) + (l * q + p))) (λ p. h (l * (4 * q) + (k * q + p))) (e k l hk hl)))
