-- The exact values of document 01 on integers: control values may be negative, and an index may lie beyond its count.
-- From 0 to the count they are those of `bezier` (proofs/Exact.antt).
use Rattle.std.specs.Prelude.{List, [], ◌∷◌, ℕ, ◌+◌, ◌*◌, ℤ, pos, ◌+ℤ◌, ◌-ℤ◌, ◌*ℤ◌}
use Rattle.bezier.specs.Exact.{points}

-- B: the four Bernstein weights of index i of n, over n × n × n, on four control values.
unfoldable pub blendℤ : (n i q0 q1 q2 q3 : ℤ) → ℤ
blendℤ n i q0 q1 q2 q3 =
    (n -ℤ i) *ℤ (n -ℤ i) *ℤ (n -ℤ i) *ℤ q0 +ℤ pos 3 *ℤ i *ℤ (n -ℤ i) *ℤ (n -ℤ i) *ℤ q1 +ℤ
    pos 3 *ℤ i *ℤ i *ℤ (n -ℤ i) *ℤ q2 +ℤ i *ℤ i *ℤ i *ℤ q3

-- Its values at the indices 0, 1, 2, ..
unfoldable pub samples : (n q0 q1 q2 q3 : ℤ) → ℕ → ℤ
samples n q0 q1 q2 q3 i = blendℤ n (pos i) q0 q1 q2 q3

-- The value in any number of parameters, as `bezier.specs.Exact.value` has it.
unfoldable pub valueℤ : (counts : List ℕ) (g : ℕ → ℤ) (sample : List ℕ) → ℤ
valueℤ [] g is = g 0
valueℤ (n ∷ ns) g [] = pos 0
valueℤ (n ∷ ns) g (i ∷ is) =
    let part : ℕ → ℤ = λ k. valueℤ ns (λ p. g (k * points ns + p)) is in
    samples (pos n) (part 0) (part 1) (part 2) (part 3) i

-- The curve along the first parameter through point number k of each quarter, with q points a quarter. A curve itself
-- is column 0 with q = 1, a patch has four columns with q = 4, and a volume sixteen with q = 16.
abbrev pub column : (n : ℤ) (g : ℕ → ℤ) (q k : ℕ) → ℕ → ℤ
column n g q k = samples n (g k) (g (q + k)) (g (2 * q + k)) (g (3 * q + k))

-- The blend along a further parameter, at j, of four sequences at i: a patch, where they are its columns.
abbrev pub surface : (m : ℤ) (f0 f1 f2 f3 : ℕ → ℤ) (i j : ℕ) → ℤ
surface m f0 f1 f2 f3 i j = samples m (f0 i) (f1 i) (f2 i) (f3 i) j

-- A patch with g(i, j) at point number 4i + j: its columns along t, blended along u.
abbrev pub patch : (n m : ℕ) (g : ℕ → ℤ) (i j : ℕ) → ℤ
patch n m g = surface (pos m) (column (pos n) g 4 0) (column (pos n) g 4 1) (column (pos n) g 4 2) (column (pos n) g 4 3)

-- A face of a volume: the surface through its columns along t number p, p + 4, p + 8 and p + 12, with g(i, j, k) at point
-- number 16i + 4j + k.
abbrev pub face : (n m : ℕ) (g : ℕ → ℤ) (p i j : ℕ) → ℤ
face n m g p =
    surface (pos m)
    (column (pos n) g 16 p) (column (pos n) g 16 (4 + p)) (column (pos n) g 16 (8 + p)) (column (pos n) g 16 (12 + p))

-- The volume: its faces, blended along v.
abbrev pub volume : (n m l : ℕ) (g : ℕ → ℤ) (i j k : ℕ) → ℤ
volume n m l g i j =
    samples (pos l) (face n m g 0 i j) (face n m g 1 i j) (face n m g 2 i j) (face n m g 3 i j)

-- Doubled points: the machine works on twice the value.
abbrev pub twice : (ℕ → ℕ) → ℕ → ℤ
twice g k = pos (2 * g k)
