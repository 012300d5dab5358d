-- The exact values on integers are those of document 01, which are natural numbers, for every sample and in any
-- number of parameters; and blended in the order of the machine they are the same.
use mathlib.Core.Path.{◌≡◌, refl, sym, ◌∙◌, ap}
use mathlib.Core.List.{List, [], ◌∷◌}
use Prim.Native.Nat.{ℕ, ◌+◌, ◌*◌, ◌≤◌}
use lib.IntN.{ℤ, pos, ◌*ℤ◌}
use Rattle.integers.proofs.Natural.{pos_sub}
use Rattle.bezier.specs.Exact.{blend, points, value, Sample, no_index, index}
use Rattle.cubic.specs.Blend.{blendℤ, samples, valueℤ, column, patch, face, volume, twice}
use Rattle.cubic.specs.Differences.{IsCubic, IsBicubic, IsTricubic}
use Rattle.cubic.specs.Tracks.{Doubles}
use Rattle.cubic.proofs.Closed.{samples_cubic}
use Rattle.cubic.proofs.Rows.{surface_bicubic}
use Rattle.cubic.proofs.Linear.{blend_scale, blend_exchange}

module _ {n i : ℕ} (a b c d : ℕ) (h : i ≤ n) where
  -- On natural control values, from index 0 to n, the two blends are the same.
  blend_exact : samples (pos n) (pos a) (pos b) (pos c) (pos d) i ≡ pos (blend n i a b c d)
  unfolding samples blendℤ blend
  blend_exact = rw (← pos_sub h)

  -- On doubled control values, the blend is doubled.
  blend_doubled :
      samples (pos n) (pos (2 * a)) (pos (2 * b)) (pos (2 * c)) (pos (2 * d)) i ≡ pos (2 * blend n i a b c d)
  unfolding samples
  blend_doubled =
      blend_scale (pos n) (pos i) (pos 2) (pos a) (pos b) (pos c) (pos d) ∙ ap (λ z. pos 2 *ℤ z) blend_exact

-- The value of doubled points is twice the exact value.
value_doubled : {ns is : List ℕ} (g : ℕ → ℕ) → Sample ns is →
    valueℤ ns (twice g) is ≡ pos (2 * value ns g is)
unfolding valueℤ value
value_doubled g no_index = refl
value_doubled g (index {n} {i} {ns} {is} h s) =
    let q : ℕ → ℕ → ℕ = λ k p. g (k * points ns + p) in
    rw (value_doubled (q 0) s, value_doubled (q 1) s, value_doubled (q 2) s, value_doubled (q 3) s)
    (blend_doubled _ _ _ _ h)

-- A curve: the samples of its doubled points are twice its values.
pub curve_doubles : (n : ℕ) (g : ℕ → ℕ) →
    Doubles n (λ i. value (n ∷ []) g (i ∷ [])) (column (pos n) (twice g) 1 0)
unfolding valueℤ points
curve_doubles n g = record {
  cubic = samples_cubic (pos n) (pos (2 * g 0)) (pos (2 * g 1)) (pos (2 * g 2)) (pos (2 * g 3));
  agrees = λ i h. value_doubled g (index h no_index);
}

-- A patch's value, blended along t first and then along u.
patch_value : (n m : ℕ) (g : ℕ → ℤ) (i j : ℕ) → patch n m g i j ≡ valueℤ (n ∷ m ∷ []) g (i ∷ j ∷ [])
unfolding valueℤ samples points
patch_value n m g i j =
    sym (blend_exchange (pos n) (pos i) (pos m) (pos j) g (λ k. g (4 + k)) (λ k. g (8 + k)) (λ k. g (12 + k)))

-- A volume's value, blended along t, then along u, then along v.
volume_value : (n m l : ℕ) (g : ℕ → ℤ) (i j k : ℕ) →
    volume n m l g i j k ≡ valueℤ (n ∷ m ∷ l ∷ []) g (i ∷ j ∷ k ∷ [])
unfolding valueℤ samples points
volume_value n m l g i j k =
    let quarter : ℕ → ℕ → ℤ = λ t p. g (t * 16 + p) in
    let line : ℕ → ℕ → ℤ = λ t v. column (pos m) (quarter t) 4 v j in
    let swap : (v : ℕ) → _ =
    λ v. blend_exchange (pos n) (pos i) (pos m) (pos j)
    (λ u. g (4 * u + v)) (λ u. g (16 + (4 * u + v))) (λ u. g (32 + (4 * u + v))) (λ u. g (48 + (4 * u + v))) in
    rw (
      ← swap 0,
      ← swap 1,
      ← swap 2,
      ← swap 3,
      ← patch_value m l (quarter 0) j k,
      ← patch_value m l (quarter 1) j k,
      ← patch_value m l (quarter 2) j k,
      ← patch_value m l (quarter 3) j k,
    )
    (sym (blend_exchange (pos n) (pos i) (pos l) (pos k) (line 0) (line 1) (line 2) (line 3)))

-- Columns of the points are cubics, so a patch is bicubic and a volume tricubic.
column_cubic : (n : ℕ) (g : ℕ → ℤ) (q k : ℕ) → IsCubic (column (pos n) g q k)
column_cubic n g q k = samples_cubic (pos n) (g k) (g (q + k)) (g (2 * q + k)) (g (3 * q + k))

pub patch_bicubic : (n m : ℕ) (g : ℕ → ℤ) → IsBicubic (patch n m g)
patch_bicubic n m g =
    surface_bicubic (pos m) _ _ _ _ (column_cubic n g 4 0) (column_cubic n g 4 1) (column_cubic n g 4 2) (column_cubic n g 4 3)

module _ (n m l : ℕ) (g : ℕ → ℤ) where
  face_bicubic : (p : ℕ) → IsBicubic (face n m g p)
  face_bicubic p =
      surface_bicubic (pos m) _ _ _ _
      (column_cubic n g 16 p) (column_cubic n g 16 (4 + p)) (column_cubic n g 16 (8 + p)) (column_cubic n g 16 (12 + p))

  -- Along t and u the volume is a blend of its faces.
  pub volume_tricubic : IsTricubic (volume n m l g)
  volume_tricubic = record {
    along_t = λ j k.
        (surface_bicubic (pos l) _ _ _ _
        ((face_bicubic 0).along_t j) ((face_bicubic 1).along_t j) ((face_bicubic 2).along_t j) ((face_bicubic 3).along_t j)).along_t k;
    along_u = λ i k.
        (surface_bicubic (pos l) _ _ _ _
        ((face_bicubic 0).along_u i) ((face_bicubic 1).along_u i) ((face_bicubic 2).along_u i) ((face_bicubic 3).along_u i)).along_t k;
    along_v = λ i j. samples_cubic (pos l) _ _ _ _;
  }

-- With doubled points they are twice the exact values.
pub patch_doubled : {n m i j : ℕ} (g : ℕ → ℕ) → i ≤ n → j ≤ m →
    patch n m (twice g) i j ≡ pos (2 * value (n ∷ m ∷ []) g (i ∷ j ∷ []))
patch_doubled {n} {m} {i} {j} g hi hj =
    patch_value n m (twice g) i j ∙ value_doubled g (index hi (index hj no_index))

pub volume_doubled : {n m l i j k : ℕ} (g : ℕ → ℕ) → i ≤ n → j ≤ m → k ≤ l →
    volume n m l (twice g) i j k ≡ pos (2 * value (n ∷ m ∷ l ∷ []) g (i ∷ j ∷ k ∷ []))
volume_doubled {n} {m} {l} {i} {j} {k} g hi hj hk =
    volume_value n m l (twice g) i j k ∙ value_doubled g (index hi (index hj (index hk no_index)))
