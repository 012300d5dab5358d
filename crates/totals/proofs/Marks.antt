-- The marks that have a line, in words: those from 1 to 255 that some cell holds, each above the one before it. Of a mark
-- that no cell holds all sums are 0, and only of such a mark the count is 0.
use mathlib.Core.Path.{◌≡◌, refl, sym, ◌∙◌, ap, subst}
use mathlib.Core.Logic.{◌↔◌, ◌⊎◌, inl, inr, ⊎_elim}
use mathlib.Core.Bool.{true, false, cond}
use mathlib.Core.List.Memᴰ
use mathlib.Core.List.{List, [], ◌∷◌, ◌++◌, append_assoc, Memᴰ}
use Prim.Native.Nat.{ℕ, zero, suc, ◌+◌, ◌≤◌, ◌<◌}
use native.Mathlib.Nat.{zero-add, add-zero, add-suc, suc-add}
use native.Mathlib.Omega.{arith}
use lib.Dec.{T, eqb}
use lib.ListN.{length, get_or}
use Rattle.decide.specs.Some.{some_of}
use Rattle.decide.proofs.Some.{some_of_lem}
use Rattle.decide.proofs.Truth.{either, both_false, decided, true_of, false_of, equal}
use Rattle.drawing.specs.NewCells.{unmarked_cells}
use Rattle.totals.specs.Totals.{sum_over, count, is_held, held_from}

-- A mark is held if it stands at some byte.
pub held_somewhere : (cube : List ℕ) (mark : ℕ) →
    T (is_held cube mark) ↔ ((p : ℕ) × (p < length cube) × (get_or cube p 0 ≡ mark))
held_somewhere cube mark =
    let s = some_of_lem (λ b. eqb b mark) cube in (
      λ t. let w = s.0 t in (w.0, w.1, (equal (get_or cube w.0 0) mark).0 w.2),
      λ w. s.1 (w.0, w.1, (equal (get_or cube w.0 0) mark).1 w.2),
    )

-- One mark or none, by whether it is held.
module _ (mark k : ℕ) (cube : List ℕ) where
  pub with_held : is_held cube mark ≡ true → held_from mark (suc k) cube ≡ mark ∷ held_from (suc mark) k cube
  unfolding held_from
  with_held t = ap (λ b. cond b (mark ∷ []) [] ++ held_from (suc mark) k cube) t

  pub without : is_held cube mark ≡ false → held_from mark (suc k) cube ≡ held_from (suc mark) k cube
  unfolding held_from
  without f = ap (λ b. cond b (mark ∷ []) [] ++ held_from (suc mark) k cube) f

-- By whether it is held.
pub by_held : (cube : List ℕ) (mark : ℕ) → (is_held cube mark ≡ true) ⊎ (is_held cube mark ≡ false)
by_held cube mark =
    ⊎_elim (λ t. inl (true_of (is_held cube mark) t)) (λ f. inr (false_of (is_held cube mark) f)) (decided (is_held cube mark))

-- One mark more, at the range's end.
pub held_more : (mark k : ℕ) (cube : List ℕ) →
    held_from mark (suc k) cube ≡ held_from mark k cube ++ held_from (mark + k) 1 cube
unfolding held_from
held_more mark zero cube = rw add-zero
held_more mark (suc k) cube =
    rw (held_more (suc mark) k cube, add-suc, ← suc-add, append_assoc (cond (is_held cube mark) (mark ∷ []) []))

-- m is one of so many marks from a mark on, and some cell holds it.
abbrev pub HeldIn : (mark many : ℕ) (cube : List ℕ) (m : ℕ) → Type 0
HeldIn mark many cube m = (mark ≤ m) × (m < mark + many) × T (is_held cube m)

-- One mark more, in front of the range.
module _ (mark k : ℕ) (cube : List ℕ) (m : ℕ)
    (later : Memᴰ m (held_from (suc mark) k cube) ↔ HeldIn (suc mark) k cube m) where
  back : Memᴰ m (held_from (suc mark) k cube) → HeldIn mark (suc k) cube m
  back h = let w = later.0 h in (omega (arith, w.0), omega (arith, w.1), w.2)

  on : ¬ (m ≡ mark) → HeldIn mark (suc k) cube m → Memᴰ m (held_from (suc mark) k cube)
  on other w = later.1 (omega (arith, w.0), omega (arith, w.1), w.2)

  front_held : is_held cube mark ≡ true → Memᴰ m (held_from mark (suc k) cube) ↔ HeldIn mark (suc k) cube m
  front_held t = rw (with_held mark k cube t) (
    λ h. ⊎_elim (λ e. (omega (arith, e), omega (arith, e), subst T (sym (ap (is_held cube) e ∙ t)) tt)) back (Memᴰ.cases_cons h),
    λ w. ⊎_elim
        (λ s. Memᴰ.head ((equal m mark).0 s))
        (λ s. Memᴰ.tail (on (λ e. s ((equal m mark).1 e)) w))
        (decided (eqb m mark)),
  )

  front_not_held : is_held cube mark ≡ false → Memᴰ m (held_from mark (suc k) cube) ↔ HeldIn mark (suc k) cube m
  front_not_held f = rw (without mark k cube f) (back, λ w. on (λ e. subst T (ap (is_held cube) e ∙ f) w.2) w)

-- Listed are those of the range that some cell holds, and no others.
pub held_listed : (mark many : ℕ) (cube : List ℕ) (m : ℕ) → Memᴰ m (held_from mark many cube) ↔ HeldIn mark many cube m
unfolding held_from
held_listed mark zero cube m = (λ h. absurd (Memᴰ.not-nil h), λ w. absurd (omega (arith, w.0, w.1)))
held_listed mark (suc k) cube m =
    let later = held_listed (suc mark) k cube m in
    ⊎_elim (front_held mark k cube m later) (front_not_held mark k cube m later) (by_held cube mark)

-- The first mark is at least the given one, and each above the one before it.
abbrev pub Rises : (least : ℕ) → List ℕ → Type 0
Rises least [] = Unit
Rises least (m ∷ ms) = (least ≤ m) × Rises (suc m) ms

rises_less : (least : ℕ) (ms : List ℕ) → Rises (suc least) ms → Rises least ms
rises_less least [] r = tt
rises_less least (m ∷ ms) r = (omega (arith, r.0), r.1)

pub held_rise : (mark many : ℕ) (cube : List ℕ) → Rises mark (held_from mark many cube)
unfolding held_from
held_rise mark zero cube = tt
held_rise mark (suc k) cube =
    let later = held_rise (suc mark) k cube in
    ⊎_elim
    (λ t. rw (with_held mark k cube t) (omega arith, later))
    (λ f. rw (without mark k cube f) (rises_less mark (held_from (suc mark) k cube) later))
    (by_held cube mark)

-- Nothing is summed of a mark that no cell holds.
pub sum_not_held : (f : ℕ → ℕ) (mark p : ℕ) (cube : List ℕ) → is_held cube mark ≡ false → sum_over f mark p cube ≡ 0
unfolding sum_over some_of
sum_not_held f mark p [] h = refl
sum_not_held f mark p (b ∷ cube) h =
    let w = both_false (eqb b mark) (is_held cube mark) h in
    rw (w.0, zero-add) (sum_not_held f mark (suc p) cube w.1)

-- A mark that some cell holds is counted.
count_from : (mark p : ℕ) (cube : List ℕ) → T (is_held cube mark) → 0 < sum_over (λ q. 1) mark p cube
unfolding sum_over some_of
count_from mark p [] h = absurd h
count_from mark p (b ∷ cube) h =
    ⊎_elim
    (λ t. rw (true_of (eqb b mark) t) (omega arith))
    (λ t. omega (arith, count_from mark (suc p) cube t))
    ((either (eqb b mark) (is_held cube mark)).0 h)

pub count_held : (cube : List ℕ) (mark : ℕ) → T (is_held cube mark) ↔ (0 < count cube mark)
count_held cube mark = (
  count_from mark 0 cube,
  λ l. ⊎_elim (λ t. t)
      (λ f. let none = sum_not_held (λ q. 1) mark 0 cube (false_of (is_held cube mark) f) in absurd (omega (arith, none, l)))
      (decided (is_held cube mark)),
)

-- The count of mark 0 is that of the unmarked cells.
pub count_unmarked : (cube : List ℕ) → count cube 0 ≡ unmarked_cells cube
unfolding sum_over unmarked_cells
count_unmarked cube = from 0 cube
  where
    from : (p : ℕ) (cube : List ℕ) → sum_over (λ q. 1) 0 p cube ≡ unmarked_cells cube
    from p [] = refl
    from p (b ∷ cube) = ap (cond (eqb b 0) 1 0 +◌) (from (suc p) cube)
