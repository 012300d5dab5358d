-- Document 01, "Exact samples and the walk", the samples: the exact values of a Bezier object on one axis, in whole
-- numbers. An object has a list of step counts, one a parameter: a curve [n], a patch [n, m], a solid (document 02, A.13)
-- [n, m, l]. A sample is a list of indices, one a parameter. The exact value of a sample is `value` over `scale`: the
-- numerator is stated, and the scale multiplies whatever it is compared with.
use Rattle.std.specs.Prelude.{List, [], ◌∷◌, ℕ, ◌+◌, ◌-◌, ◌*◌, ◌≤◌}

-- B: the four Bernstein weights of sample i of n, over n × n × n, on four control values.
unfoldable pub blend : (n i g0 g1 g2 g3 : ℕ) → ℕ
blend n i g0 g1 g2 g3 =
    (n - i) * (n - i) * (n - i) * g0 + 3 * i * (n - i) * (n - i) * g1 + 3 * i * i * (n - i) * g2 + i * i * i * g3

-- N: n × n × n for a curve, n³ × m³ for a patch, n³ × m³ × l³ for a solid.
unfoldable pub scale : List ℕ → ℕ
scale [] = 1
scale (n ∷ ns) = n * n * n * scale ns

-- The number of control points: four for a curve, sixteen for a patch, sixty-four for a solid.
unfoldable pub points : List ℕ → ℕ
points [] = 1
points (n ∷ ns) = 4 * points ns

-- The numerator of a sample's exact value, where g k is the coordinate of point number k: the same weights along each
-- parameter. The later parameters' indices run fastest, so that g(i, j) of a patch is point number 4 × i + j,
-- and g(i, j, k) of a solid 16 × i + 4 × j + k.
unfoldable pub value : (counts : List ℕ) (g : ℕ → ℕ) (sample : List ℕ) → ℕ
value [] g is = g 0
value (n ∷ ns) g [] = 0
value (n ∷ ns) g (i ∷ is) =
    let part : ℕ → ℕ = λ k. value ns (λ p. g (k * points ns + p)) is in
    blend n i (part 0) (part 1) (part 2) (part 3)

-- The samples of an object: each index runs from 0 to the step count of its parameter.
pub data Sample : List ℕ → List ℕ → Type 0 where
  no_index : Sample [] []
  index : {n i : ℕ} {ns is : List ℕ} → i ≤ n → Sample ns is → Sample (n ∷ ns) (i ∷ is)

-- The corners, with their point numbers: each index is 0 or its step count. A curve's are samples 0 and n, at points
-- 0 and 3.
pub data Corner : List ℕ → List ℕ → ℕ → Type 0 where
  no_corner : Corner [] [] 0
  first : {n p : ℕ} {ns is : List ℕ} → Corner ns is p → Corner (n ∷ ns) (0 ∷ is) p
  last : {n p : ℕ} {ns is : List ℕ} → Corner ns is p → Corner (n ∷ ns) (n ∷ is) (3 * points ns + p)
