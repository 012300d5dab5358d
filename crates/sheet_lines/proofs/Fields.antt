-- The digits of a field byte by byte, and what is read of a good and of a bad field.
use mathlib.Core.Path.{◌≡◌, refl, sym, ◌∙◌, ap}
use mathlib.Core.Bool.{Bool, true, false, cond, not, ◌&&◌, and-true, and-eq-true_iff}
use mathlib.Core.List.{List, [], ◌∷◌}
use Prim.Native.Nat.{ℕ, suc, ◌+◌, ◌-◌, ◌*◌, ◌^◌, ◌≤◌, ◌<◌}
use native.Mathlib.Nat.{pow-suc, pow-le-pow_right}
use native.Mathlib.Numerals.{add-one, one-add}
use native.Mathlib.Omega.{arith}
use lib.Dec.{eqb, leb, lit≤}
use lib.ListN.{length, get_or, drop, drop_of_length-le}
use lib.Seq.{drop-cons}
use borrow.Author.Tests.{eq-eqb, ne_eqb, leb-true, eqb-true}
use Rattle.std.specs.Prelude.{Some, None, is_none, ◌==◌}
use Rattle.std.specs.List.{list_all, prefix_len}
use Rattle.std.specs.Char.{is_ascii_digit}
use Rattle.sheet.specs.Field.{is_digit, are_digits, after_blanks, is_number, digits_of, is_bad, decimal, value_of}
use Rattle.sheet_lines.specs.Read.{read_field}

-- What stands after the blanks.
pub after_prefix : (l : List ℕ) → drop (prefix_len (λ b. b == 32) l) l ≡ after_blanks l
unfolding after_blanks
after_prefix [] = refl
after_prefix (b ∷ bs) = by_test (eqb b 32) _ (after_prefix bs)
  where
    by_test : (t : Bool) (n : ℕ) → drop n bs ≡ after_blanks bs → drop (cond t (1 + n) 0) (b ∷ bs) ≡ cond t (after_blanks bs) (b ∷ bs)
    by_test true n e = ap (λ m. drop m (b ∷ bs)) (one-add n) ∙ e
    by_test false n e = refl

-- Every byte is a digit, by std's word for one.
pub all_digits : (l : List ℕ) → list_all is_ascii_digit l ≡ are_digits l
unfolding are_digits is_digit
all_digits [] = refl
all_digits (b ∷ bs) = ap (is_ascii_digit b &&◌) (all_digits bs)

-- What is left of a list before its end is an element and what is left after it.
left_at : (l : List ℕ) (i : ℕ) → i < length l → drop i l ≡ get_or l i 0 ∷ drop (i + 1) l
left_at l i h = rw add-one (drop-cons l i 0 h)

-- What a digit is.
digit_bounds : (d : ℕ) → is_digit d ≡ true → (48 ≤ d) × (d ≤ 57)
unfolding is_digit
digit_bounds d e = let b = (and-eq-true_iff (leb 48 d) (leb d 57)).0 e in (leb-true 48 d b.0, leb-true d 57 b.1)

module _ (l : List ℕ) (i : ℕ) (h : i < length l) where
  -- What stands from byte i on is digits where that byte is one and the later ones are.
  pub next_digit : are_digits (drop i l) ≡ true → (48 ≤ get_or l i 0) × (are_digits (drop (i + 1) l) ≡ true)
  unfolding are_digits
  next_digit e =
      let b = (and-eq-true_iff (is_digit (get_or l i 0)) (are_digits (drop (i + 1) l))).0 (sym (ap are_digits (left_at l i h)) ∙ e) in
      ((digit_bounds (get_or l i 0) b.0).0, b.1)

  -- A digit is read after the number before it.
  pub digit_read : (n : ℕ) → decimal n (drop i l) ≡ decimal (10 * n + (get_or l i 0 - 48)) (drop (i + 1) l)
  unfolding decimal
  digit_read n = ap (decimal n) (left_at l i h)

-- At the end nothing is left to read.
pub read_end : (l : List ℕ) (i : ℕ) → length l ≤ i → (n : ℕ) → decimal n (drop i l) ≡ n
unfolding decimal
read_end l i h n = rw (drop_of_length-le l h)

-- No byte is no number.
pub no_digit : (l : List ℕ) → length l ≡ 0 → is_number l ≡ false
unfolding is_number
no_digit [] e = refl
no_digit (b ∷ bs) e = absurd (omega arith)

-- Where a zero does not lead, being a number is being digits.
pub no_leading_zero : (l : List ℕ) → 0 < length l → (1 < length l → get_or l 0 0 ≡ 48 → ⊥) → is_number l ≡ are_digits l
unfolding is_number are_digits
no_leading_zero [] h n = absurd (omega arith)
no_leading_zero (b ∷ []) h n = sym (and-true (is_digit b))
no_leading_zero (b ∷ c ∷ bs) h n = rw (ne_eqb b 48 (n (omega arith)))

-- Where a zero leads, it is no number.
pub leading_zero : (l : List ℕ) → 1 < length l → get_or l 0 0 ≡ 48 → is_number l ≡ false
unfolding is_number
leading_zero [] h e = absurd (omega arith)
leading_zero (b ∷ []) h e = absurd (omega arith)
leading_zero (b ∷ c ∷ bs) h e = rw (eq-eqb b 48 e)

-- A number is made of digits.
number_digits : (l : List ℕ) → is_number l ≡ true → are_digits l ≡ true
unfolding is_number are_digits
number_digits [] e = refl
number_digits (b ∷ []) e = rw e
number_digits (b ∷ c ∷ bs) e = ((and-eq-true_iff (not (eqb b 48)) (are_digits (b ∷ c ∷ bs))).0 e).1

-- What stands after the blanks is no longer than the field.
after_within : (l : List ℕ) → length (after_blanks l) ≤ length l
unfolding after_blanks
after_within [] = lit≤ tt
after_within (b ∷ bs) = by_test (eqb b 32) (after_blanks bs) (after_within bs)
  where
    by_test : (t : Bool) (l : List ℕ) → length l ≤ length bs → length (cond t l (b ∷ bs)) ≤ suc (length bs)
    by_test true l later = omega arith
    by_test false l later = omega arith

-- A field that is not five bytes long hands back nothing,
pub not_five : (f : List ℕ) → (length f ≡ 5 → ⊥) → digits_of f ≡ []
unfolding digits_of
not_five f n = rw (ne_eqb (length f) 5 n)

-- and one that is hands back what stands after the blanks, where that is a number.
pub of_five : (f : List ℕ) → length f ≡ 5 → digits_of f ≡ cond (is_number (after_blanks f)) (after_blanks f) []
unfolding digits_of
of_five f e = rw (eq-eqb (length f) 5 e)

-- So a field hands back digits, at most five.
pub digits_few : (f : List ℕ) → (length (digits_of f) ≤ 5) × (are_digits (digits_of f) ≡ true)
unfolding digits_of are_digits
digits_few f = by_test (eqb (length f) 5 && is_number (after_blanks f)) (and-eq-true_iff (eqb (length f) 5) (is_number (after_blanks f))).0
  where
    by_test : (t : Bool) → (t ≡ true → (eqb (length f) 5 ≡ true) × (is_number (after_blanks f) ≡ true)) →
        (length (cond t (after_blanks f) []) ≤ 5) × (are_digits (cond t (after_blanks f) []) ≡ true)
    by_test true good =
        let g = good refl in
        let five = eqb-true (length f) 5 g.0 in
        (omega (arith, after_within f), number_digits (after_blanks f) g.1)
    by_test false good = (lit≤ tt, refl)

-- Digits add to what was read before them.
pub read_before : (n : ℕ) (l : List ℕ) → n ≤ decimal n l
unfolding decimal
read_before n [] = omega arith
read_before n (d ∷ ds) = omega (arith, read_before (10 * n + (d - 48)) ds)

-- A number of k digits after one below b is below b × 10 ^ k.
decimal_below : (n b : ℕ) (l : List ℕ) → n < b → are_digits l ≡ true → decimal n l < b * 10 ^ length l
unfolding decimal are_digits
decimal_below n b [] h e = omega arith
decimal_below n b (d ∷ ds) h e =
    let g = (and-eq-true_iff (is_digit d) (are_digits ds)).0 e in
    let r = digit_bounds d g.0 in
    let k = decimal_below (10 * n + (d - 48)) (b * 10) ds (omega arith) g.1 in
    rw pow-suc (omega arith)

pub few_below : (l : List ℕ) → length l ≤ 5 → are_digits l ≡ true → decimal 0 l < 100000
few_below l h e =
    let p : 10 ^ length l ≤ 10 ^ 5 = pow-le-pow_right {n = 10} (omega arith) {j = 5} h in
    let b = decimal_below 0 1 l (omega arith) e in
    omega arith

module _ (f : List ℕ) where
  -- A good field is read as its value,
  pub good_read : is_bad f ≡ false → read_field f ≡ Some (value_of f)
  unfolding read_field
  good_read e = rw e

  -- and a bad one is not read.
  pub bad_read : is_bad f ≡ true → read_field f ≡ None
  unfolding read_field
  bad_read e = rw e

  -- So what is read shows whether the field is good.
  pub read_good : {n : ℕ} → read_field f ≡ Some n → (is_bad f ≡ false) × (n ≡ value_of f)
  unfolding read_field
  read_good {n} = by_test (is_bad f)
    where
      by_test : (t : Bool) → cond t None (Some (value_of f)) ≡ Some n → (t ≡ false) × (n ≡ value_of f)
      by_test true e = cc
      by_test false e = (refl, cc)

  pub not_read : read_field f ≡ None → is_bad f ≡ true
  unfolding read_field
  not_read = by_test (is_bad f)
    where
      by_test : (t : Bool) → cond t None (Some (value_of f)) ≡ None → t ≡ true
      by_test true e = refl
      by_test false e = cc

  pub unread : is_none (read_field f) ≡ is_bad f
  unfolding read_field
  unread = by_test (is_bad f)
    where
      by_test : (t : Bool) → is_none (cond t None (Some (value_of f))) ≡ t
      by_test true = refl
      by_test false = refl

  -- A field is bad exactly where it hands back no digit.
  pub no_digits_bad : length (digits_of f) ≡ 0 → is_bad f ≡ true
  unfolding is_bad
  no_digits_bad e = eq-eqb (length (digits_of f)) 0 e

  pub digits_good : (length (digits_of f) ≡ 0 → ⊥) → is_bad f ≡ false
  unfolding is_bad
  digits_good n = ne_eqb (length (digits_of f)) 0 n
