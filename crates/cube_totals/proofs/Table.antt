-- The table of marks, cell by cell: a cell adds to the words of its mark and to no others, and no number of a cube's table
-- is large.
use mathlib.Core.Path.{◌≡◌, refl, sym, ◌∙◌, ap, ap₂}
use mathlib.Core.Logic.{⊎_elim}
use mathlib.Core.Bool.{cond}
use mathlib.Core.List.{List, [], ◌∷◌, ◌++◌}
use Prim.Native.Nat.{ℕ, zero, suc, ◌+◌, ◌*◌, ◌/◌, ◌%◌, ◌^◌, ◌≤◌, ◌<◌}
use native.Mathlib.Nat.{add-zero, zero-add, suc-add, add-suc, add_assoc, mul-le-mul}
use native.Mathlib.Numerals.{add-one}
use native.Mathlib.Omega.{arith}
use lib.Dec.{eqb, ltb}
use lib.ListN.{length, get_or, take, drop, replicate, length-set, length-drop, length-replicate, get_or-replicate}
use lib.ListN.{get_or-eq_default}
use lib.Seq.{take-suc, take-take, length-take-le, get_or-take, get_or-drop, get_or-set_same, get_or-set_other}
use Rattle.decide.proofs.Truth.{decided, true_of, false_of, equal, less, not_less}
use Rattle.cube.specs.Cube.{x_axis, y_axis, z_axis, volume}
use Rattle.cube.proofs.Places.{x_of, y_of, z_of, cell_at_inside}
use Rattle.totals.specs.Totals.{sum_over}
use Rattle.totals.specs.Sums.{Bytes}
use Rattle.totals.proofs.Ranges.{sum_bounded}
use Rattle.totals.proofs.Sums.{sum_more}
use Rattle.totals.proofs.Numbers.{sum_at_most}
use Rattle.cube_totals.specs.declared.tally.Row.{Row}
use Rattle.cube_totals.specs.Table.{two_to32, words, adds, word, Table, plus, plus_all, added, added_row, Below}
use Rattle.cube_totals.specs.Next.{row_number}

-- A number more at one place changes that place alone.
module _ (t : List ℕ) (i v : ℕ) where
  plus_here : i < length t → get_or (plus t i v) i 0 ≡ get_or t i 0 + v
  plus_here l = get_or-set_same t i (get_or t i 0 + v) 0 l

  plus_elsewhere : (j : ℕ) → ¬ (j ≡ i) → get_or (plus t i v) j 0 ≡ get_or t j 0
  plus_elsewhere j other = get_or-set_other t i j (get_or t i 0 + v) 0 other

-- So the bound rises by at most what is added.
pub below_plus : {most : ℕ} {t : List ℕ} (i v : ℕ) → i < 1024 → v ≤ 2 ^ 39 → Below most t → Below (most + 2 ^ 39) (plus t i v)
below_plus {most} {t} i v l small b = record {
  size = length-set t i (get_or t i 0 + v) ∙ b.size;
  small = λ j. ⊎_elim
      (λ s. rw ((equal j i).0 s) (omega (arith, plus_here t i v (omega (arith, b.size)), b.small i)))
      (λ f. rw (plus_elsewhere t i v j (λ e. f ((equal j i).1 e))) (omega (arith, b.small j)))
      (decided (eqb j i));
}

pub below_more : {most : ℕ} {t : List ℕ} (more : ℕ) → most ≤ more → Below most t → Below more t
below_more more l b = record { size = b.size; small = λ i. omega (arith, b.small i) }

-- Numbers side by side change their places alone.
length_plus_all : (t : List ℕ) (i : ℕ) (vs : List ℕ) → length (plus_all t i vs) ≡ length t
unfolding plus_all
length_plus_all t i [] = refl
length_plus_all t i (v ∷ vs) = length_plus_all (plus t i v) (suc i) vs ∙ length-set t i (get_or t i 0 + v)

before_all : (t : List ℕ) (i : ℕ) (vs : List ℕ) (j : ℕ) → j < i → get_or (plus_all t i vs) j 0 ≡ get_or t j 0
unfolding plus_all
before_all t i [] j l = refl
before_all t i (v ∷ vs) j l =
    before_all (plus t i v) (suc i) vs j (omega arith) ∙ plus_elsewhere t i v j (λ e. omega (arith, e))

after_all : (t : List ℕ) (i : ℕ) (vs : List ℕ) (j : ℕ) → i + length vs ≤ j → get_or (plus_all t i vs) j 0 ≡ get_or t j 0
unfolding plus_all
after_all t i [] j l = refl
after_all t i (v ∷ vs) j l =
    after_all (plus t i v) (suc i) vs j (omega arith) ∙ plus_elsewhere t i v j (λ e. omega (arith, e))

among_all : (t : List ℕ) (i : ℕ) (vs : List ℕ) (k : ℕ) → k < length vs → i + length vs ≤ length t →
    get_or (plus_all t i vs) (i + k) 0 ≡ get_or t (i + k) 0 + get_or vs k 0
unfolding plus_all
among_all t i [] k l h = absurd (omega arith)
among_all t i (v ∷ vs) zero l h =
    rw add-zero (before_all (plus t i v) (suc i) vs i (omega arith) ∙ plus_here t i v (omega arith))
among_all t i (v ∷ vs) (suc k) l h =
    let room : suc i + length vs ≤ length (plus t i v) = rw length-set (omega arith) in
    rw (add-suc, ← suc-add)
    (among_all (plus t i v) (suc i) vs k (omega arith) room ∙
    ap (◌+ get_or vs k 0) (plus_elsewhere t i v (suc i + k) (λ e. omega (arith, e))))

-- Two of them one by one.
pub both_words : (t : List ℕ) (i a b : ℕ) → plus (plus t i a) (i + 1) b ≡ plus_all t i (a ∷ b ∷ [])
unfolding plus_all
both_words t i a b = rw (add-one i)

-- The two words of a mark, by the places of their parts.
module _ (t : List ℕ) (m : ℕ) where
  pub first_word : word t m 0 ≡ get_or t (4 * m) 0 + get_or t (4 * m + 2) 0
  first_word = ap₂ (λ i j. get_or t i 0 + get_or t j 0) (add-zero (4 * m)) (add-zero (4 * m + 2))

  pub second_word : word t m 1 ≡ get_or t (4 * m + 1) 0 + get_or t (4 * m + 3) 0
  second_word = ap (λ j. get_or t (4 * m + 1) 0 + get_or t j 0) (add_assoc (4 * m) 2 1)

-- Word k of mark m, with a cell of mark b added.
module _ (b m k x y z : ℕ) (t : List ℕ) (size : length t ≡ 1024) (l : b < 256) (h : k < 2) where
  abbrev vs : List ℕ
  vs = words x y z

  added_here : b ≡ m → (e : ℕ) → e ≡ x % 2 → word (plus_all t (4 * b + 2 * e) vs) m k ≡ word t m k + get_or vs k 0
  added_here same zero e =
      let i : ℕ = 4 * b + 2 * 0 in
      let first : 4 * m + k ≡ i + k = omega arith in
      rw (first, among_all t i vs k h (omega arith), after_all t i vs (4 * m + 2 + k) (omega arith)) (omega arith)
  added_here same (suc zero) e =
      let i : ℕ = 4 * b + 2 * 1 in
      let second : 4 * m + 2 + k ≡ i + k = omega arith in
      rw (second, among_all t i vs k h (omega arith), before_all t i vs (4 * m + k) (omega arith)) (omega arith)
  added_here same (suc (suc n)) e = absurd (omega (arith, e))

  added_elsewhere : ¬ (b ≡ m) → (e : ℕ) → e ≡ x % 2 → word (plus_all t (4 * b + 2 * e) vs) m k ≡ word t m k
  added_elsewhere other e is =
      let i : ℕ = 4 * b + 2 * e in
      let small : e < 2 = omega (arith, is) in
      ⊎_elim
      (λ s. let lower = (less m b).0 s in
      rw (before_all t i vs (4 * m + k) (omega arith), before_all t i vs (4 * m + 2 + k) (omega arith)))
      (λ g. let higher = not_less m b g in
      rw (after_all t i vs (4 * m + k) (omega arith), after_all t i vs (4 * m + 2 + k) (omega arith)))
      (decided (ltb m b))

  added_word : word (added b x y z t) m k ≡ word t m k + cond (eqb b m) (get_or vs k 0) 0
  added_word =
      ⊎_elim
      (λ s. rw (true_of (eqb b m) s) (added_here ((equal b m).0 s) (x % 2) refl))
      (λ f. rw (false_of (eqb b m) f, add-zero) (added_elsewhere (λ e. f ((equal b m).1 e)) (x % 2) refl))
      (decided (eqb b m))

-- A cell raises the bound by at most 2 to the 40.
pub below_added : {most : ℕ} {t : List ℕ} (b x y z : ℕ) → b < 256 → x ≤ 64 → y ≤ 64 → z ≤ 64 → Below most t →
    Below (most + 2 ^ 40) (added b x y z t)
unfolding plus_all
below_added {most} {t} b x y z l x_in y_in z_in below =
    let i : ℕ = 4 * b + 2 * (x % 2) in
    let rise : most + 2 ^ 39 + 2 ^ 39 ≡ most + 2 ^ 40 = omega arith in
    rw (← rise)
    (below_plus (suc i) (y + two_to32 * z) (omega arith) (omega arith)
    (below_plus i (1 + two_to32 * x) (omega arith) (omega arith) below))

-- The next cell of a row.
row_more : (marks : List ℕ) (x : ℕ) (r : Row) (t : List ℕ) (m : ℕ) →
    added_row (marks ++ m ∷ []) x r t ≡ added m (x + length marks) r.y r.z (added_row marks x r t)
unfolding added_row
row_more [] x r t m = rw add-zero
row_more (a ∷ marks) x r t m =
    let first : List ℕ = added a x r.y r.z t in
    row_more marks (suc x) r first m ∙
    ap (λ q. added m q r.y r.z (added_row marks (suc x) r first))
    (suc-add x (length marks) ∙ sym (add-suc x (length marks)))

pub row_next : (marks : List ℕ) (i : ℕ) (r : Row) (t : List ℕ) → i < length marks →
    added_row (take (suc i) marks) 0 r t ≡
    added (get_or marks i 0) i r.y r.z (added_row (take i marks) 0 r t)
row_next marks i r t l =
    rw (take-suc marks i 0 l)
    (row_more (take i marks) 0 r t (get_or marks i 0) ∙
    ap (λ x. added (get_or marks i 0) x r.y r.z (added_row (take i marks) 0 r t))
    (zero-add _ ∙ length-take-le i marks (omega arith)))

-- The cleared table is that of no bytes.
pub none_yet : (S : ℕ) → Table S [] (replicate 1024 0)
unfolding sum_over
none_yet S = record {
  size = length-replicate {A = ℕ} 1024 0;
  holds = λ m k l h.
      rw (
        get_or-replicate {A = ℕ} 1024 (4 * m + k) 0 0 (omega arith),
        get_or-replicate {A = ℕ} 1024 (4 * m + 2 + k) 0 0 (omega arith),
      );
}

module _ (S : ℕ) (cube : List ℕ) (p x y z : ℕ) (x_in : x < S) (y_in : y < S) (stands : p ≡ x + S * (y + S * z)) where
  -- The coordinates that are added are those of the byte.
  coordinates : (k : ℕ) → get_or (words x y z) k 0 ≡ adds S k p
  coordinates k =
      let x_is : p % S ≡ x = x_of S p x y z x_in y_in stands in
      let y_is : p / S % S ≡ y = y_of S p x y z x_in y_in stands in
      let z_is : p / (S * S) ≡ z = z_of S p x y z x_in y_in stands in
      let same : words x y z ≡ words (p % S) (p / S % S) (p / (S * S)) = cc in
      ap (λ l. get_or l k 0) same

  -- One byte more.
  one_more : {t : List ℕ} → p < length cube → get_or cube p 0 < 256 → Table S (take p cube) t →
      Table S (take (suc p) cube) (added (get_or cube p 0) x y z t)
  one_more {t} l byte table = record {
    size = length_plus_all t _ _ ∙ table.size;
    holds = λ m k small h.
        let here : 0 + length (take p cube) ≡ p = zero-add _ ∙ length-take-le p cube (omega arith) in
        added_word (get_or cube p 0) m k x y z t table.size byte h ∙
        ap₂ ◌+◌ (table.holds m k small h) (ap (λ v. cond (eqb (get_or cube p 0) m) v 0) (coordinates k)) ∙
        sym
        (ap (sum_over (adds S k) m 0) (take-suc cube p 0 l) ∙
        sum_more (adds S k) m 0 (take p cube) (get_or cube p 0) ∙
        ap (λ q. sum_over (adds S k) m 0 (take p cube) + cond (eqb (get_or cube p 0) m) (adds S k q) 0) here);
  }

-- A row more: cell by cell.
module _ (S : ℕ) (cube : List ℕ) (p : ℕ) (r : Row) (y_in : r.y < S) (stands : p ≡ S * row_number S r)
    (inside : p + S ≤ length cube) (bytes : Bytes (take S (drop p cube))) where
  abbrev marks : List ℕ
  marks = take S (drop p cube)

  cells : (i : ℕ) {t : List ℕ} → i ≤ S → Table S (take p cube) t → Table S (take (p + i) cube) (added_row (take i marks) 0 r t)
  unfolding added_row
  cells zero l table = rw add-zero table
  cells (suc i) {t} l table =
      let size : length marks ≡ S = length-take-le S (drop p cube) (omega (arith, length-drop p cube)) in
      let mark : get_or marks i 0 ≡ get_or cube (p + i) 0 = get_or-take S (drop p cube) i 0 (omega arith) ∙ get_or-drop p cube i 0 in
      let more : p + i < length cube = omega arith in
      rw (add-suc, row_next marks i r t (omega (arith, size)), mark)
      (one_more S cube (p + i) i r.y r.z (omega arith) y_in (omega (arith, stands)) more
      (rw mark at (bytes i (omega (arith, size)))) (cells i (omega arith) table))

  pub row_added : {t : List ℕ} → Table S (take p cube) t → Table S (take (p + S) cube) (added_row marks 0 r t)
  row_added {t} table =
      let all : take S marks ≡ marks = take-take S S (drop p cube) (omega arith) in
      rw all at (cells S (omega arith) table)

-- No number of a cube's table is large.
module _ (S : ℕ) (cube : List ℕ) (most : S ≤ 64) (size : length cube ≤ volume S) where
  adds_small : (k p : ℕ) → p < volume S → adds S k p ≤ 2 ^ 39
  adds_small k p l =
      word_small k (omega (arith, cell_at_inside S p l x_axis)) (omega (arith, cell_at_inside S p l y_axis))
      (omega (arith, cell_at_inside S p l z_axis))
    where
      word_small : {x y z : ℕ} (k : ℕ) → x ≤ 64 → y ≤ 64 → z ≤ 64 → get_or (words x y z) k 0 ≤ 2 ^ 39
      word_small zero x y z = omega arith
      word_small (suc zero) x y z = omega arith
      word_small (suc (suc k)) x y z = omega arith

  sums_small : (m k : ℕ) → sum_over (adds S k) m 0 cube ≤ 2 ^ 60
  sums_small m k =
      let all = sum_at_most (adds S k) m 0 cube in
      let each = sum_bounded 0 (length cube) (2 ^ 39) (adds S k) (λ i from until. adds_small k i (omega arith)) in
      let few : volume S ≤ 262144 = mul-le-mul (mul-le-mul most most) most in
      omega (arith, all, each, few, size)

  pub table_below : {t : List ℕ} → Table S cube t → Below (2 ^ 60) t
  table_below {t} table = record {
    size = table.size;
    small = λ i. ⊎_elim (λ s. inside i ((less i 1024).0 s))
        (λ f. let past = not_less i 1024 f in rw (get_or-eq_default t 0 {n = i} (omega (arith, table.size))) (omega arith))
        (decided (ltb i 1024));
  }
    where
      -- A place is a part of a word.
      inside : (i : ℕ) → i < 1024 → get_or t i 0 ≤ 2 ^ 60
      inside i l =
          let w = table.holds (i / 4) (i % 2) (omega arith) (omega arith) in
          let small = sums_small (i / 4) (i % 2) in
          ⊎_elim
          (λ s. let even = (equal (i / 2 % 2) 0).0 s in
          let e : 4 * (i / 4) + i % 2 ≡ i = omega arith in
          let at : get_or t (4 * (i / 4) + i % 2) 0 ≡ get_or t i 0 = ap (λ j. get_or t j 0) e in
          omega (arith, w, small, at))
          (λ f. let odd : ¬ (i / 2 % 2 ≡ 0) = λ e. f ((equal (i / 2 % 2) 0).1 e) in
          let e : 4 * (i / 4) + 2 + i % 2 ≡ i = omega arith in
          let at : get_or t (4 * (i / 4) + 2 + i % 2) 0 ≡ get_or t i 0 = ap (λ j. get_or t j 0) e in
          omega (arith, w, small, at))
          (decided (eqb (i / 2 % 2) 0))
