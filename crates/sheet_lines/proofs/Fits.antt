-- A curve line fits exactly where what is read of its fields fits, and its stroke is then what is read.
use mathlib.Core.Path.{◌≡◌, refl, sym, ◌∙◌, ap, subst}
use mathlib.Core.Logic.{◌↔◌}
use mathlib.Core.Bool.{Bool, true, false, cond, not, ◌&&◌, ◌||◌, or-false, or_assoc, true≢false, false≢true}
use mathlib.Core.List.{List, [], ◌∷◌}
use Prim.Native.Nat.{ℕ, zero, suc, ◌+◌, ◌≤◌, ◌<◌}
use native.Mathlib.Nat.{add-zero, zero-add}
use native.Mathlib.Omega.{arith}
use lib.Dec.{T, ltb, eqb}
use lib.ListN.{length, get_or}
use borrow.Author.Tests.{not-true, ne_eqb, le-ltb, eqb-false, ltb-false}
use Rattle.std.specs.Prelude.{Option, Some, None, is_some, is_none}
use Rattle.std.specs.Option.{unwrap_or}
use Rattle.std.specs.List.{list_any, range_with_len}
use Rattle.decide.specs.Some.{some_below}
use Rattle.decide.proofs.Truth.{both_false, true_of, false_of, false_iff}
use Rattle.decide.proofs.Some.{some_below_lem}
use Rattle.drawing.specs.declared.Choice.TheVariants.{Over}
use Rattle.drawing.specs.Refusals.{count_out}
use Rattle.curve.specs.declared.Curve.{Curve}
use Rattle.curve.specs.Curve.{curve_of}
use Rattle.sheet.specs.Field.{is_bad}
use Rattle.sheet.specs.Line.{field, number, some_bad}
use Rattle.sheet.specs.Sheet.{mark_out, stroke_of, object_of}
use Rattle.sheet_lines.specs.Read.{read_field, fits, fit_read, read_line, first_of, unfit_refusal}
use Rattle.sheet_lines.proofs.Fields.{unread, good_read}

-- No index below n passes.
none_below : (p : ℕ → Bool) (n : ℕ) → (some_below n p ≡ false) ↔ ((k : ℕ) → k < n → p k ≡ false)
none_below p n = (
  λ e k h. false_of (p k) (λ t. (false_iff _).0 e ((some_below_lem p n).1 (k, h, t))),
  λ none. false_of (some_below n p) (λ t. let w = (some_below_lem p n).0 t in (false_iff _).0 (none w.0 w.1) w.2),
)

-- Some index below n passes, where they are tested in turn.
first_below : (q : ℕ → Bool) (n : ℕ) → some_below (suc n) q ≡ (q 0 || some_below n (λ k. q (suc k)))
unfolding some_below
first_below q zero = sym (or-false (q 0))
first_below q (suc n) =
    ap (◌|| q (suc n)) (first_below q n) ∙ or_assoc (q 0) (some_below n (λ k. q (suc k))) (q (suc n))

any_below : (p q : ℕ → Bool) (a n : ℕ) → ((k : ℕ) → p (a + k) ≡ q k) → list_any p (range_with_len a n) ≡ some_below n q
unfolding some_below
any_below p q a zero e = refl
any_below p q a (suc n) e =
    let here : p a ≡ q 0 = ap p (sym (add-zero a)) ∙ e 0 in
    let next : (k : ℕ) → p (a + 1 + k) ≡ q (suc k) = λ k. let s : a + 1 + k ≡ a + suc k = omega arith in ap p s ∙ e (suc k) in
    rw (here, any_below p (λ k. q (suc k)) (a + 1) n next) (sym (first_below q n))

-- None of three tests is true.
all_not : (a b c : Bool) → ((not a && not b && not c) ≡ true) ↔ ((a ≡ false) × (b ≡ false) × (c ≡ false))
all_not true b c = (λ e. absurd (false≢true e), λ p. absurd (true≢false p.0))
all_not false true c = (λ e. absurd (false≢true e), λ p. absurd (true≢false p.1))
all_not false false c = (λ e. (refl, refl, not-true c e), λ p. rw p.2)

-- A mark from 1 to 255.
pub mark_in : (m : ℕ) → (mark_out m ≡ false) ↔ ((0 < m) × (m ≤ 255))
unfolding mark_out
mark_in m = (
  λ e.
      let b = both_false (eqb m 0) (ltb 255 m) e in
      let n = eqb-false m 0 b.0 in
      (omega arith, ltb-false 255 m b.1),
  λ p. let n : m ≡ 0 → ⊥ = λ e. omega arith in rw (ne_eqb m 0 n, le-ltb 255 m p.1),
)

module _ (l : List ℕ) where
  -- No field is bad.
  pub fields_good : (n : ℕ) → (some_bad n l ≡ false) ↔ ((k : ℕ) → k < n → is_bad (field l k) ≡ false)
  unfolding some_bad
  fields_good n = none_below (λ k. is_bad (field l k)) n

  -- Some field is bad, where they are read in turn.
  some_unread : (n : ℕ) → list_any (λ k. is_none (read_field (field l k))) (range_with_len 0 n) ≡ some_bad n l
  unfolding some_bad
  some_unread n = any_below _ _ 0 n (λ k. rw zero-add (unread (field l k)))

  -- A bad field.
  pub field_bad : (n k : ℕ) → k < n → is_bad (field l k) ≡ true → some_bad n l ≡ true
  unfolding some_bad
  field_bad n k h e = true_of _ ((some_below_lem (λ j. is_bad (field l j)) n).1 (k, h, subst T (sym e) tt))

  -- Where no field is bad, every field is read as its value.
  read_in : some_bad 14 l ≡ false → (k : ℕ) → k < 14 → unwrap_or (read_field (field l k)) 0 ≡ number l k
  read_in e k h = rw (good_read (field l k) ((fields_good 14).0 e k h))

  -- The three things that a line that fits is.
  pub fits_parts : (fits l ≡ true) ↔
      ((some_bad 14 l ≡ false) × (mark_out (number l 0) ≡ false) × (some_below 12 (λ k. ltb 255 (number l (k + 2))) ≡ false))
  unfolding fits
  fits_parts = all_not (some_bad 14 l) (mark_out (number l 0)) (some_below 12 (λ k. ltb 255 (number l (k + 2))))

  -- The number that refuses a line that does not fit, by what is read: where a field is bad, no other number is asked.
  pub refusal_read : {bad mark_wrong count_wrong : Bool} {mark steps : Option ℕ} {m n : ℕ} →
      bad ≡ list_any (λ k. is_none (read_field (field l k))) (range_with_len 0 14) →
      mark ≡ read_field (field l 0) → m ≡ unwrap_or mark 0 → mark_wrong ≡ mark_out m →
      steps ≡ read_field (field l 1) → n ≡ unwrap_or steps 0 → count_wrong ≡ count_out 512 n →
      first_of bad mark_wrong count_wrong ≡ unfit_refusal l
  unfolding unfit_refusal
  refusal_read b r m mark_test s n count_test = rw (b, mark_test, m, r, count_test, n, s, some_unread 14) (by_test (some_bad 14 l) read_in)
    where
      by_test : (t : Bool) → (t ≡ false → (k : ℕ) → k < 14 → unwrap_or (read_field (field l k)) 0 ≡ number l k) →
          first_of t (mark_out (unwrap_or (read_field (field l 0)) 0)) (count_out 512 (unwrap_or (read_field (field l 1)) 0)) ≡
          first_of t (mark_out (number l 0)) (count_out 512 (number l 1))
      by_test true read = refl
      by_test false read = rw (read refl 0 (omega arith), read refl 1 (omega arith))

-- What is read of a line that fits: a mark from 1 to 255, a step count and twelve bytes.
pub record Fitting (l : List ℕ) : Type 0 where
  pub mark : (is_bad (field l 0) ≡ false) × (mark_out (number l 0) ≡ false)
  pub steps : is_bad (field l 1) ≡ false
  pub bytes : (k : ℕ) → k < 12 → (is_bad (field l (k + 2)) ≡ false) × (number l (k + 2) ≤ 255)

module _ (l : List ℕ) where
  fitting : fits l ≡ true → Fitting l
  fitting e =
      let p = (fits_parts l).0 e in
      let good = (fields_good l 14).0 p.0 in
      record {
        mark = (good 0 (omega arith), p.1);
        steps = good 1 (omega arith);
        bytes = λ k h. (
          good (k + 2) (omega arith),
          ltb-false 255 (number l (k + 2)) ((none_below (λ k. ltb 255 (number l (k + 2))) 12).0 p.2 k h),
        );
      }

  all_good : Fitting l → (k : ℕ) → k < 14 → is_bad (field l k) ≡ false
  all_good f zero h = f.mark.0
  all_good f (suc zero) h = f.steps
  all_good f (suc (suc k)) h =
      let e : k + 2 ≡ suc (suc k) = omega arith in
      rw e at (f.bytes k (omega arith)).0

  fitted : Fitting l → fits l ≡ true
  fitted f =
      (fits_parts l).1 (
        (fields_good l 14).1 (all_good f),
        f.mark.1,
        (none_below (λ k. ltb 255 (number l (k + 2))) 12).1 (λ k h. le-ltb 255 (number l (k + 2)) (f.bytes k h).1),
      )

-- The n values of f from a on.
listed : (f : ℕ → ℕ) (a n : ℕ) → List ℕ
listed f a zero = []
listed f a (suc n) = f a ∷ listed f (suc a) n

all_listed : (f : ℕ → ℕ) (a : ℕ) (xs : List ℕ) (n : ℕ) → length xs ≡ n →
    ((k : ℕ) → k < n → get_or xs k 0 ≡ f (k + a)) → xs ≡ listed f a n
unfolding listed
all_listed f a [] zero e at = refl
all_listed f a [] (suc n) e at = absurd (omega arith)
all_listed f a (x ∷ xs) zero e at = absurd (omega arith)
all_listed f a (x ∷ xs) (suc n) e at =
    let first : 0 + a ≡ a = omega arith in
    let later : (k : ℕ) → k < n → get_or xs k 0 ≡ f (k + suc a) = λ k h.
    let next : suc k + a ≡ k + suc a = omega arith in rw next at (at (suc k) (omega arith))
    in
    rw (rw first at (at 0 (omega arith)), all_listed f (suc a) xs n (omega arith) later)

listed_at : (f : ℕ → ℕ) (a n k : ℕ) → k < n → get_or (listed f a n) k 0 ≡ f (k + a)
unfolding listed
listed_at f a zero k h = absurd (omega arith)
listed_at f a (suc n) zero h = let first : 0 + a ≡ a = omega arith in rw first
listed_at f a (suc n) (suc k) h =
    let next : suc k + a ≡ k + suc a = omega arith in rw next (listed_at f (suc a) n k (omega arith))

-- A stroke's coordinates.
pub points_at_lem : (l : List ℕ) (k : ℕ) → k < 12 → get_or (stroke_of l).points k 0 ≡ number l (k + 2)
unfolding listed
points_at_lem l k h = listed_at (number l) 2 12 k h

-- What is read of a line that fits, coordinate by coordinate, is its stroke.
pub fit_line : (l ps : List ℕ) (n m : ℕ) → Fitting l → m ≡ number l 0 → n ≡ number l 1 → length ps ≡ 12 →
    ((k : ℕ) → k < 12 → get_or ps k 0 ≡ number l (k + 2)) →
    Some (record { points = ps; steps = n; mark = m; choice = Over }) ≡ read_line l
unfolding listed read_line
fit_line l ps n m f mark steps twelve at =
    let points = all_listed (number l) 2 ps 12 twelve at in
    rw (mark, steps, points, fitted l f)

-- A line that does not fit is not read.
pub unfit_line : (l : List ℕ) → (Fitting l → ⊥) → None ≡ read_line l
unfolding read_line
unfit_line l none = rw (false_of (fits l) (λ t. none (fitting l (true_of (fits l) t))))

-- What a line that was read says.
module _ (l : List ℕ) where
  pub read_fits : {r : Option Curve} → r ≡ read_line l → is_some r ≡ fits l
  unfolding read_line
  read_fits e = ap is_some e ∙ by_test (fits l)
    where
      by_test : (t : Bool) → is_some (cond t (Some (fit_read l)) None) ≡ t
      by_test true = refl
      by_test false = refl

  pub read_curve : {c : Curve} → Some c ≡ read_line l → curve_of c ≡ object_of (stroke_of l)
  unfolding read_line
  read_curve {c} = by_test (fits l)
    where
      by_test : (t : Bool) → Some c ≡ cond t (Some (fit_read l)) None → curve_of c ≡ object_of (stroke_of l)
      by_test true e = let same : c ≡ fit_read l = cc in ap curve_of same
      by_test false e = cc
