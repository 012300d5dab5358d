-- A drawing goes through every sample and nothing else: the list of samples holds exactly the samples, as many as document 01
-- and A.13 say.
use mathlib.Core.Path.{◌≡◌, refl, sym, ◌∙◌, ap}
use mathlib.Core.Logic.{⊎_elim}
use mathlib.Core.List.{◌++◌, append-nil, append_assoc}
use mathlib.Core.List.Memᴰ
use mathlib.Core.List.{List, [], ◌∷◌, Memᴰ}
use Prim.Native.Nat.{ℕ, zero, suc, ◌*◌, ◌≤◌}
use native.Mathlib.Omega.{arith}
use lib.ListN.{length, length-append}
use Rattle.bezier.specs.Exact.{Sample, no_index, index}
use Rattle.decide.proofs.Some.{below_or_last}
use Rattle.drawing.specs.Refusals.{sample_count}
use Rattle.drawing.specs.Drawing.{row, rows, samples}

-- A row holds the samples with its later indices.
in_row : (n i : ℕ) (is : List ℕ) → i ≤ n → Memᴰ (i ∷ is) (row n is)
unfolding row
in_row zero i is h = let e : i ≡ zero = omega arith in Memᴰ.head (ap (λ k. k ∷ is) e)
in_row (suc n) i is h =
    ⊎_elim (λ l. Memᴰ.append_left _ (in_row n i is (omega arith)))
    (λ e. Memᴰ.append_right (row n is) (Memᴰ.head (ap (λ k. k ∷ is) e)))
    (below_or_last {i = i} {n = suc n} (omega arith))

of_row : (n : ℕ) (is js : List ℕ) → Memᴰ js (row n is) → (i : ℕ) × (i ≤ n) × (js ≡ i ∷ is)
unfolding row
of_row zero is js m = (zero, omega arith, Memᴰ.eq_of_singleton m)
of_row (suc n) is js m =
    ⊎_elim (λ l. let w = of_row n is js l in (w.0, omega (arith, w.1), w.2))
    (λ l. (suc n, omega arith, Memᴰ.eq_of_singleton l))
    (Memᴰ.append_cases (row n is) m)

in_rows : (n : ℕ) {i : ℕ} {is : List ℕ} {later : List (List ℕ)} → i ≤ n → Memᴰ is later → Memᴰ (i ∷ is) (rows n later)
unfolding rows
in_rows n {i} {is} h (Memᴰ.head {x = js} e) =
    Memᴰ.append_left _ (Memᴰ.cast (ap (λ l. i ∷ l) e) (in_row n i js h))
in_rows n {i} {is} h (Memᴰ.tail {x = js} m) = Memᴰ.append_right (row n js) (in_rows n h m)

of_rows : (n : ℕ) (later : List (List ℕ)) (js : List ℕ) → Memᴰ js (rows n later) →
    (i : ℕ) × (is : List ℕ) × (i ≤ n) × Memᴰ is later × (js ≡ i ∷ is)
unfolding rows
of_rows n [] js m = elim m [ ]
of_rows n (is ∷ later) js m =
    ⊎_elim (λ l. let w = of_row n is js l in (w.0, is, w.1, Memᴰ.head refl, w.2))
    (λ l. let w = of_rows n later js l in (w.0, w.1, w.2, Memᴰ.tail w.3, w.4))
    (Memᴰ.append_cases (row n is) m)

-- Rows in turn are rows of the first later samples and then of the others.
pub rows_append : (n : ℕ) (a b : List (List ℕ)) → rows n (a ++ b) ≡ rows n a ++ rows n b
unfolding rows
rows_append n [] b = refl
rows_append n (is ∷ a) b = ap (λ l. row n is ++ l) (rows_append n a b) ∙ sym (append_assoc (row n is) (rows n a) (rows n b))

-- Row 0 alone, and one row more.
pub rows_first : (n : ℕ) (is : List ℕ) → rows n (row 0 is) ≡ row n (0 ∷ is)
unfolding rows row
rows_first n is = append-nil (row n (0 ∷ is))

pub rows_more : (n j : ℕ) (is : List ℕ) → rows n (row (suc j) is) ≡ rows n (row j is) ++ row n (suc j ∷ is)
unfolding rows row
rows_more n j is =
    rows_append n (row j is) ((suc j ∷ is) ∷ []) ∙ ap (λ l. rows n (row j is) ++ l) (append-nil (row n (suc j ∷ is)))

-- One later parameter is one row.
pub one_row : (n : ℕ) → samples (n ∷ []) ≡ row n []
unfolding samples rows
one_row n = append-nil (row n [])

-- Every sample is gone through.
pub sample_listed : {ns is : List ℕ} → Sample ns is → Memᴰ is (samples ns)
unfolding samples
sample_listed no_index = Memᴰ.head refl
sample_listed (index {n} h s) = in_rows n h (sample_listed s)

-- Nothing else is.
pub listed_sample : (ns is : List ℕ) → Memᴰ is (samples ns) → Sample ns is
unfolding samples
listed_sample [] is m = rw (Memᴰ.eq_of_singleton m) no_index
listed_sample (n ∷ ns) is m =
    let w = of_rows n (samples ns) is m in
    rw w.4 (index w.2 (listed_sample ns w.1 w.3))

-- A row has n + 1 samples.
pub length_row : (n : ℕ) (is : List ℕ) → length (row n is) ≡ suc n
unfolding row
length_row zero is = refl
length_row (suc n) is = rw (length-append, length_row n is) (omega arith)

length_rows : (n : ℕ) (later : List (List ℕ)) → length (rows n later) ≡ suc n * length later
unfolding rows
length_rows n [] = omega arith
length_rows n (is ∷ later) = rw (length-append, length_row n is, length_rows n later) (omega arith)

-- As many as document 01 says.
pub samples_count : (ns : List ℕ) → length (samples ns) ≡ sample_count ns
unfolding samples sample_count
samples_count [] = refl
samples_count (n ∷ ns) = rw (length_rows, samples_count ns)
