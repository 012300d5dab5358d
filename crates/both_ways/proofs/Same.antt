-- Parts of two lists are the same where their bytes are.
use Rattle.std.proofs.Common.{◌≡◌, ℕ, zero, suc, ◌+◌, ◌-◌, ◌<◌, ◌≤◌, List, Bool, true, false, T, length, get_or, take, drop, min, sym, subst, ap, ap₂, ◌∙◌, refl, arith, length-take, length-drop, add-zero}
use Rattle.std.proofs.lemmas.List.{get_or-drop, get_or-take, ext_get_or}
use Rattle.std.proofs.lemmas.Float.{T_from_true}
use lib.Pointwise.{pointwise, bytes_decides}
use lib.Dec.{eqb}
use lib.Seq.{take_all}
use Rattle.flip.specs.Listings.{SameCell}
use Rattle.both_ways.specs.Bytes.{SameFrom}

-- What an equality of two lists of bytes answers.
true_of : (b : Bool) → T b → b ≡ true
true_of true t = refl
true_of false t = absurd t

pub bytes_same : (xs ys : List ℕ) (b : Bool) → b ≡ pointwise eqb xs ys → (T b → xs ≡ ys) × (xs ≡ ys → T b)
bytes_same xs ys b e = (λ t. (bytes_decides xs ys).0 (sym e ∙ true_of b t), λ s. T_from_true b (e ∙ (bytes_decides xs ys).1 s))

-- The parts of so many bytes.
module _ (a b : List ℕ) (i j n : ℕ) (one : i + n ≤ length a) (other : j + n ≤ length b) where
  pub bytes_of_part : take n (drop i a) ≡ take n (drop j b) → (k : ℕ) → k < n → get_or a (i + k) 0 ≡ get_or b (j + k) 0
  bytes_of_part e k h =
      sym (get_or-drop i a k 0) ∙ sym (get_or-take n (drop i a) k 0 h) ∙ ap (λ l. get_or l k 0) e ∙
      get_or-take n (drop j b) k 0 h ∙ get_or-drop j b k 0

  long : (l : List ℕ) (at : ℕ) → at + n ≤ length l → length (take n (drop at l)) ≡ n
  long l at h = simp (length-take, length-drop) (omega arith)

  pub part_of_bytes : ((k : ℕ) → k < n → get_or a (i + k) 0 ≡ get_or b (j + k) 0) → take n (drop i a) ≡ take n (drop j b)
  part_of_bytes same =
      ext_get_or 0 (take n (drop i a)) (take n (drop j b)) (long a i one ∙ sym (long b j other)) (λ k h.
      let below : k < n = omega (arith, long a i one) in
      get_or-take n (drop i a) k 0 below ∙ get_or-drop i a k 0 ∙ same k below ∙ sym (get_or-drop j b k 0) ∙
      sym (get_or-take n (drop j b) k 0 below))

bytes_of_cell : (a b : List ℕ) (i j : ℕ) → SameCell a i b j → (k : ℕ) → k < 3 → get_or a (i + k) 0 ≡ get_or b (j + k) 0
bytes_of_cell a b i j c zero h = simp add-zero c.x
bytes_of_cell a b i j c (suc zero) h = c.y
bytes_of_cell a b i j c (suc (suc zero)) h = c.z
bytes_of_cell a b i j c (suc (suc (suc k))) h = absurd (omega arith)

-- Three bytes, as a cell.
pub cell_same : (a b : List ℕ) (i j : ℕ) → i + 3 ≤ length a → j + 3 ≤ length b → (r : Bool) →
    r ≡ pointwise eqb (take 3 (drop i a)) (take 3 (drop j b)) → (T r → SameCell a i b j) × (SameCell a i b j → T r)
cell_same a b i j one other r h =
    let s = bytes_same (take 3 (drop i a)) (take 3 (drop j b)) r h in
    let byte : T r → (k : ℕ) → k < 3 → get_or a (i + k) 0 ≡ get_or b (j + k) 0 = λ t. bytes_of_part a b i j 3 one other (s.0 t) in (
      λ t. record { x = simp add-zero at (byte t 0 (omega arith)); y = byte t 1 (omega arith); z = byte t 2 (omega arith) },
      λ c. s.1 (part_of_bytes a b i j 3 one other (bytes_of_cell a b i j c)),
    )

-- All bytes from a place on, which may be past the end.
pub from_same : (a b : List ℕ) (from rest : ℕ) → length a ≡ length b → rest ≡ min from (length a) → (r : Bool) →
    r ≡ pointwise eqb (take (length a - rest) (drop rest a)) (take (length b - rest) (drop rest b)) → (T r → SameFrom from a b) × (SameFrom from a b → T r)
from_same a b from rest lengths least r h =
    let whole : (l : List ℕ) → take (length l - rest) (drop rest l) ≡ drop rest l = λ l. take_all (length l - rest) (drop rest l) (omega (arith, length-drop rest l)) in
    let s = bytes_same (drop rest a) (drop rest b) r (h ∙ ap₂ (pointwise eqb) (whole a) (whole b)) in (
      λ t. record {
        long = lengths;
        bytes = λ k past below.
            let at : k ≡ rest + (k - rest) = omega arith in
            ap (λ n. get_or a n 0) at ∙ sym (get_or-drop rest a (k - rest) 0) ∙ ap (λ l. get_or l (k - rest) 0) (s.0 t) ∙
            get_or-drop rest b (k - rest) 0 ∙ sym (ap (λ n. get_or b n 0) at);
      },
      λ c. s.1 (ext_get_or 0 (drop rest a) (drop rest b) (simp length-drop (omega arith)) (λ k below.
          let within : k < length a - rest = omega (arith, length-drop rest a) in
          get_or-drop rest a k 0 ∙ c.bytes (rest + k) (omega arith) (omega arith) ∙ sym (get_or-drop rest b k 0))),
    )
