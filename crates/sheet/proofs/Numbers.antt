-- A number in columns that hold it is a good field and reads back as the number: its last digit is added to what reads
-- back of the others.
use mathlib.Core.Path.{◌≡◌, refl, sym, ◌∙◌, ap, subst}
use mathlib.Core.Logic.{⊎_elim}
use mathlib.Core.Bool.{true, false, cond, not, ◌&&◌}
use mathlib.Core.List.{List, [], ◌∷◌, ◌++◌, append_assoc}
use Prim.Native.Nat.{ℕ, zero, suc, ◌+◌, ◌-◌, ◌*◌, ◌/◌, ◌%◌, ◌^◌, ◌≤◌, ◌<◌}
use native.Mathlib.Omega.{arith}
use lib.Dec.{T, leb, ltb, eqb, le→leb}
use lib.ListN.{length, length-append, replicate, length-replicate}
use Rattle.decide.proofs.Truth.{both, decided, true_of, false_of, less, not_less, equal}
use Rattle.sheet.specs.Field.{is_digit, are_digits, after_blanks, is_number, digits_of, is_bad, decimal, value_of, in_columns}
use Rattle.sheet.specs.Field.{columns}

-- The last digit of a number.
abbrev last_digit : ℕ → ℕ
last_digit v = 48 + v % 10

last_is_digit : (v : ℕ) → T (is_digit (last_digit v))
unfolding is_digit
last_is_digit v =
    (both (leb 48 (48 + v % 10)) (leb (48 + v % 10) 57)).1
    (le→leb 48 (48 + v % 10) (omega arith), le→leb (48 + v % 10) 57 (omega arith))

-- Digits with one more.
are_digits_append : (ds : List ℕ) (d : ℕ) → T (are_digits ds) → T (is_digit d) → T (are_digits (ds ++ d ∷ []))
unfolding are_digits
are_digits_append [] d e f = (both (is_digit d) true).1 (f, tt)
are_digits_append (b ∷ bs) d e f =
    let bd = (both (is_digit b) (are_digits bs)).0 e in
    (both (is_digit b) (are_digits (bs ++ d ∷ []))).1 (bd.0, are_digits_append bs d bd.1 f)

decimal_append : (n : ℕ) (ds : List ℕ) (d : ℕ) → decimal n (ds ++ d ∷ []) ≡ 10 * decimal n ds + (d - 48)
unfolding decimal
decimal_append n [] d = refl
decimal_append n (b ∷ bs) d = decimal_append (10 * n + (b - 48)) bs d

-- Blanks are passed over.
after_replicate : (k : ℕ) (ds : List ℕ) → after_blanks (replicate k 32 ++ ds) ≡ after_blanks ds
unfolding after_blanks
after_replicate zero ds = refl
after_replicate (suc k) ds = after_replicate k ds

-- As many bytes as columns.
pub length_in_columns : (w v : ℕ) → length (in_columns w v) ≡ w
unfolding in_columns
length_in_columns zero v = refl
length_in_columns (suc w) v =
    ⊎_elim
    (λ t. ap length (ap (λ b. cond b (replicate w 32) (in_columns w (v / 10)) ++ last_digit v ∷ []) (true_of (ltb v 10) t)) ∙
    length-append (replicate w 32) (last_digit v ∷ []) ∙ ap (◌+ 1) (length-replicate w 32) ∙ omega arith)
    (λ f. ap length (ap (λ b. cond b (replicate w 32) (in_columns w (v / 10)) ++ last_digit v ∷ []) (false_of (ltb v 10) f)) ∙
    length-append (in_columns w (v / 10)) (last_digit v ∷ []) ∙ ap (◌+ 1) (length_in_columns w (v / 10)) ∙ omega arith)
    (decided (ltb v 10))

-- A number above 0 as written: blanks, a first digit that is neither a blank nor 0, and further digits.
record Written (w v : ℕ) : Type 0 where
  pub blanks : ℕ
  pub first : ℕ
  pub others : List ℕ
  pub is : in_columns w v ≡ replicate blanks 32 ++ (first ∷ others)
  pub not_blank : eqb first 32 ≡ false
  pub not_zero : eqb first 48 ≡ false
  pub digits : T (are_digits (first ∷ others))
  pub value : decimal 0 (first ∷ others) ≡ v

unequal : (m n : ℕ) → ¬ (m ≡ n) → eqb m n ≡ false
unequal m n f = false_of (eqb m n) (λ t. f ((equal m n).0 t))

-- One digit.
one_digit : (w v : ℕ) → 0 < v → v < 10 → Written (suc w) v
unfolding in_columns are_digits decimal
one_digit w v p q = record {
  blanks = w;
  first = last_digit v;
  others = [];
  is = ap (λ b. cond b (replicate w 32) (in_columns w (v / 10)) ++ last_digit v ∷ []) (true_of (ltb v 10) ((less v 10).1 q));
  not_blank = unequal (last_digit v) 32 (λ e. omega (arith, e));
  not_zero = unequal (last_digit v) 48 (λ e. omega (arith, e));
  digits = (both (is_digit (last_digit v)) true).1 (last_is_digit v, tt);
  value = omega arith;
}

-- One digit more.
more_digits : (w v : ℕ) → 10 ≤ v → Written w (v / 10) → Written (suc w) v
unfolding in_columns
more_digits w v p r = record {
  blanks = r.blanks;
  first = r.first;
  others = r.others ++ last_digit v ∷ [];
  is =
      ap (λ b. cond b (replicate w 32) (in_columns w (v / 10)) ++ last_digit v ∷ [])
      (false_of (ltb v 10) (λ t. let l = (less v 10).0 t in omega arith)) ∙
      ap (◌++ last_digit v ∷ []) r.is ∙
      append_assoc (replicate r.blanks 32) (r.first ∷ r.others) (last_digit v ∷ []);
  not_blank = r.not_blank;
  not_zero = r.not_zero;
  digits = are_digits_append (r.first ∷ r.others) (last_digit v) r.digits (last_is_digit v);
  value =
      let e = r.value in
      decimal_append 0 (r.first ∷ r.others) (last_digit v) ∙ ap (λ x. 10 * x + (last_digit v - 48)) e ∙ omega arith;
}

written : (w v : ℕ) → 0 < v → v < 10 ^ w → Written w v
written zero v p q = absurd (omega arith)
written (suc w) v p q =
    ⊎_elim (λ t. one_digit w v p ((less v 10).0 t))
    (λ f. let l = not_less v 10 f in more_digits w v l (written w (v / 10) (omega arith) (omega arith)))
    (decided (ltb v 10))

-- Digits that do not begin with 0 are a number.
is_number_lem : (b : ℕ) (bs : List ℕ) → eqb b 48 ≡ false → T (are_digits (b ∷ bs)) → T (is_number (b ∷ bs))
unfolding is_number are_digits
is_number_lem b [] z d = ((both (is_digit b) true).0 d).0
is_number_lem b (c ∷ bs) z d =
    (both (not (eqb b 48)) (are_digits (b ∷ c ∷ bs))).1 (subst (λ x. T (not x)) (sym z) tt, d)

-- What follows the blanks of a number above 0 as written.
after_of : {w v : ℕ} (r : Written w v) → after_blanks (in_columns w v) ≡ r.first ∷ r.others
unfolding after_blanks
after_of r =
    ap after_blanks r.is ∙ after_replicate r.blanks (r.first ∷ r.others) ∙
    ap (λ b. cond b (after_blanks r.others) (r.first ∷ r.others)) r.not_blank

number_of : {w v : ℕ} (r : Written w v) → T (is_number (r.first ∷ r.others))
number_of r = is_number_lem r.first r.others r.not_zero r.digits

-- In columns that hold it a number is whole: what follows the blanks is a number, and stands for it.
pub columns_hold : (w v : ℕ) → v < 10 ^ suc w →
    T (is_number (after_blanks (in_columns (suc w) v))) × (decimal 0 (after_blanks (in_columns (suc w) v)) ≡ v)
unfolding in_columns after_blanks is_number is_digit decimal
columns_hold w zero q =
    rw (after_replicate w (48 ∷ [])) (tt, refl)
columns_hold w (suc v) q =
    let r = written (suc w) (suc v) (omega arith) q in rw (after_of r) (number_of r, r.value)

-- The digits of a number above 0 as written.
digits_of_lem : (v : ℕ) (r : Written 5 v) → digits_of (columns v) ≡ r.first ∷ r.others
unfolding digits_of
digits_of_lem v r =
    ap (λ l. cond (eqb l 5 && is_number (after_blanks (columns v))) (after_blanks (columns v)) []) (length_in_columns 5 v) ∙
    ap (λ a. cond (is_number a) a []) (after_of r) ∙
    ap (λ b. cond b (r.first ∷ r.others) []) (true_of (is_number (r.first ∷ r.others)) (number_of r))

above_zero : (v : ℕ) → Written 5 v → (is_bad (columns v) ≡ false) × (value_of (columns v) ≡ v)
unfolding is_bad value_of
above_zero v r =
    let more : ¬ (suc (length r.others) ≡ 0) = λ e. omega (arith, e) in (
      ap (λ l. eqb (length l) 0) (digits_of_lem v r) ∙ unequal (suc (length r.others)) 0 more,
      ap (decimal 0) (digits_of_lem v r) ∙ r.value,
    )

-- The text of a field of value v, written in 5 columns, is a good field and reads back as v.
pub reads_back : (v : ℕ) → v < 100000 → (is_bad (columns v) ≡ false) × (value_of (columns v) ≡ v)
unfolding is_bad value_of digits_of after_blanks is_number is_digit decimal in_columns
reads_back zero q = (refl, refl)
reads_back (suc v) q = above_zero (suc v) (written 5 (suc v) (omega arith) q)
