-- The first number that applies, in words: no number exactly where no rule applies, and otherwise the number of a
-- rule that applies while none before it does.
use mathlib.Core.Path.{◌≡◌, refl, sym, ap, ◌∙◌}
use mathlib.Core.Logic.{◌↔◌, ◌⊎◌, inl, inr, ⊎_elim}
use mathlib.Core.Bool.{Bool, true, false, cond, true≢false}
use mathlib.Core.List.{List, [], ◌∷◌, ◌++◌}
use Prim.Native.Nat.{ℕ, ◌≤◌}
use native.Mathlib.Omega.{arith}
use lib.Dec.{ltb, eqb}
use borrow.Author.Tests.{ltb-false}
use Rattle.decide.specs.Some.{some_of}
use Rattle.decide.specs.Refusal.{Rule, ◌when◌, Verdict, accepted, refused, first_that, right_after, numbers, or_else}
use Rattle.decide.specs.Refusal.{gives, refuses, outcome, telling}
use Rattle.decide.proofs.Truth.{both_false, equal, false_iff}

-- No rule of the order applies.
abbrev pub NoneApplies : List Rule → Type 0
NoneApplies [] = Unit {0}
NoneApplies (r ∷ rs) = (r.applies ≡ false) × NoneApplies rs

-- A rule with number k applies, and none before it does.
pub data FirstApplies (k : ℕ) : List Rule → Type 0 where
  here : {r : Rule} {rs : List Rule} → r.applies ≡ true → r.number ≡ k → FirstApplies k (r ∷ rs)
  there : {r : Rule} {rs : List Rule} → r.applies ≡ false → FirstApplies k rs → FirstApplies k (r ∷ rs)

-- The verdict of an order from its first rule and the verdict of the rest.
step : Rule → Verdict → Verdict
step r v = cond r.applies (refused r.number) v

module _ (r : Rule) (v : Verdict) where
  step_accepted : (step r v ≡ accepted) ↔ ((r.applies ≡ false) × (v ≡ accepted))
  unfolding step
  step_accepted = (go r.applies, λ p. rw p.0 p.1)
    where
      go : (b : Bool) → cond b (refused r.number) v ≡ accepted → (b ≡ false) × (v ≡ accepted)
      go true e = let z : ◌≡◌ {A = ℕ} 0 1 = cc in absurd (omega arith)
      go false e = (refl, e)

  step_refused : (k : ℕ) → step r v ≡ refused k →
      ((r.applies ≡ true) × (r.number ≡ k)) ⊎ ((r.applies ≡ false) × (v ≡ refused k))
  unfolding step
  step_refused k = go r.applies
    where
      go : (b : Bool) → cond b (refused r.number) v ≡ refused k →
          ((b ≡ true) × (r.number ≡ k)) ⊎ ((b ≡ false) × (v ≡ refused k))
      go true e = inl (refl, cc)
      go false e = inr (refl, e)

-- No number is answered exactly where no rule applies.
pub accepted_none : (rules : List Rule) → (first_that rules ≡ accepted) ↔ NoneApplies rules
unfolding first_that step
accepted_none [] = (λ e. tt, λ u. refl)
accepted_none (r ∷ rs) =
    let s = step_accepted r (first_that rs) in
    let b = accepted_none rs in
    (λ e. ((s.0 e).0, b.0 (s.0 e).1), λ p. s.1 (p.0, b.1 p.1))

first_of_refused : (rules : List Rule) (k : ℕ) → first_that rules ≡ refused k → FirstApplies k rules
unfolding first_that step
first_of_refused [] k e = let z : ◌≡◌ {A = ℕ} 0 1 = cc in absurd (omega arith)
first_of_refused (r ∷ rs) k e =
    ⊎_elim (λ p. here p.0 p.1) (λ p. there p.0 (first_of_refused rs k p.1))
    (step_refused r (first_that rs) k e)

refused_of_first : {k : ℕ} {rules : List Rule} → FirstApplies k rules → first_that rules ≡ refused k
unfolding first_that
refused_of_first (here a e) = rw (a, e)
refused_of_first (there a f) = rw a (refused_of_first f)

-- A number is answered exactly where its rule is the first that applies.
pub refused_first : (rules : List Rule) (k : ℕ) → (first_that rules ≡ refused k) ↔ FirstApplies k rules
refused_first rules k = (first_of_refused rules k, refused_of_first)

-- Where no number of an order is above m, neither is the one that is answered.
pub refused_most : (m : ℕ) (rules : List Rule) {k : ℕ} → some_of (ltb m) (numbers rules) ≡ false →
    first_that rules ≡ refused k → k ≤ m
unfolding some_of numbers
refused_most m rules none e = first_most (first_of_refused rules _ e) none
  where
    first_most : {k : ℕ} {rules : List Rule} → FirstApplies k rules → some_of (ltb m) (numbers rules) ≡ false → k ≤ m
    first_most (here {r} {rs} a e) none =
        rw e at (ltb-false m r.number (both_false (ltb m r.number) (some_of (ltb m) (numbers rs)) none).0)
    first_most (there {r} {rs} a f) none =
        first_most f (both_false (ltb m r.number) (some_of (ltb m) (numbers rs)) none).1

-- A number that no rule has is not answered.
pub not_answered : (k : ℕ) (rules : List Rule) → some_of (eqb k) (numbers rules) ≡ false → ¬ (first_that rules ≡ refused k)
unfolding some_of numbers
not_answered k rules none e = other (first_of_refused rules k e) none
  where
    other : {rules : List Rule} → FirstApplies k rules → ¬ (some_of (eqb k) (numbers rules) ≡ false)
    other (here {r} {rs} a e) none =
        (false_iff (eqb k r.number)).0 (both_false (eqb k r.number) (some_of (eqb k) (numbers rs)) none).0
        ((equal k r.number).1 (sym e))
    other (there {r} {rs} a f) none = other f (both_false (eqb k r.number) (some_of (eqb k) (numbers rs)) none).1

-- A number that one rule alone has is answered exactly where that rule applies and none before it does.
pub refused_at : (k : ℕ) (b : Bool) (before after : List Rule) →
    some_of (eqb k) (numbers before) ≡ false → some_of (eqb k) (numbers after) ≡ false →
    (first_that (before ++ k when b ∷ after) ≡ refused k) ↔ (NoneApplies before × (b ≡ true))
unfolding first_that numbers some_of step
refused_at k true [] after n m = (λ e. (tt, refl), λ w. refl)
refused_at k false [] after n m = (λ e. absurd (not_answered k after m e), λ w. absurd (true≢false (sym w.1)))
refused_at k b (r ∷ rs) after n m =
    let p = both_false (eqb k r.number) (some_of (eqb k) (numbers rs)) n in
    let rest = refused_at k b rs after p.1 m in (
      λ e. ⊎_elim
          (λ w. absurd ((false_iff (eqb k r.number)).0 p.0 ((equal k r.number).1 (sym w.1))))
          (λ w. let t = rest.0 w.1 in ((w.0, t.0), t.1))
          (step_refused r (first_that (rs ++ k when b ∷ after)) k e),
      λ w. rw w.0.0 (rest.1 (w.0.1, w.1)),
    )

-- A call is accepted, or refused with some number,
pub by_verdict : (v : Verdict) (P : Type 0) → (v ≡ accepted → P) → ((k : ℕ) → v ≡ refused k → P) → P
by_verdict accepted P f g = f refl
by_verdict (refused k) P f g = g k refl

-- and not both.
pub not_both : {k : ℕ} → ¬ (refused k ≡ accepted)
not_both e = let z : ◌≡◌ {A = ℕ} 0 1 = cc in omega arith

-- What a call answers tells its verdict: a number is the verdict's, and a value is that of an accepted call.
module _ {A : Type 0} where
  pub answer_refused : (v : Verdict) (a : A) {k : ℕ} → refuses k ≡ outcome v a → v ≡ refused k
  answer_refused accepted a e = let z : ◌≡◌ {A = ℕ} 0 1 = cc in absurd (omega arith)
  answer_refused (refused l) a e = cc

  pub answer_given : (v : Verdict) (a : A) {b : A} → gives b ≡ outcome v a → (v ≡ accepted) × (b ≡ a)
  answer_given accepted a e = (refl, cc)
  answer_given (refused l) a e = let z : ◌≡◌ {A = ℕ} 0 1 = cc in absurd (omega arith)

-- What is told of a call's value is the value of what is told.
pub telling_outcome : {A B : Type 0} (f : A → B) (v : Verdict) (a : A) → telling f (outcome v a) ≡ outcome v (f a)
telling_outcome f accepted a = refl
telling_outcome f (refused k) a = refl

module _ (k : ℕ) (b : Bool) (rules : List Rule) where
  -- A number whose test is true is the first.
  pub first_applies : b ≡ true → first_that (k when b ∷ rules) ≡ refused k
  unfolding first_that
  first_applies e = rw e

  -- A number whose test is false is passed over.
  pub first_passes : b ≡ false → first_that (k when b ∷ rules) ≡ first_that rules
  unfolding first_that
  first_passes e = rw e

  -- Where no number is answered, the first test is false and no later number is answered.
  pub accepted_passes : first_that (k when b ∷ rules) ≡ accepted → (b ≡ false) × (first_that rules ≡ accepted)
  unfolding first_that step
  accepted_passes = (step_accepted (k when b) (first_that rules)).0

-- No rule answers no number.
pub first_empty : first_that [] ≡ accepted
unfolding first_that
first_empty = refl

-- Two orders in a row answer the first's number, if it has one, and else the second's.
pub first_append : (a b : List Rule) → first_that (a ++ b) ≡ or_else (first_that a) (first_that b)
unfolding first_that
first_append [] b = refl
first_append (r ∷ a) b = by_test r.applies (first_append a b)
  where
    by_test : (t : Bool) → first_that (a ++ b) ≡ or_else (first_that a) (first_that b) →
        cond t (refused r.number) (first_that (a ++ b)) ≡
        or_else (cond t (refused r.number) (first_that a)) (first_that b)
    by_test true e = refl
    by_test false e = e

-- So a number of the first is the answer,
pub append_refused : (a b : List Rule) {k : ℕ} → first_that a ≡ refused k → first_that (a ++ b) ≡ refused k
append_refused a b e = first_append a b ∙ ap (λ v. or_else v (first_that b)) e

-- and past a first that has none, it is the second's.
pub append_passes : (a b : List Rule) → first_that a ≡ accepted → first_that (a ++ b) ≡ first_that b
append_passes a b e = first_append a b ∙ ap (λ v. or_else v (first_that b)) e

both_accepted : (v w : Verdict) → or_else v w ≡ accepted → (v ≡ accepted) × (w ≡ accepted)
both_accepted accepted w e = (refl, e)
both_accepted (refused k) w e = (e, cc)

-- Where two orders in a row answer no number, neither does.
pub accepted_append : (a b : List Rule) →
    first_that (a ++ b) ≡ accepted → (first_that a ≡ accepted) × (first_that b ≡ accepted)
accepted_append a b e = both_accepted (first_that a) (first_that b) (sym (first_append a b) ∙ e)

-- Three orders in a row answer the first's number, or else the second's, or else the third's.
pub first_append_three : (a b c : List Rule) →
    first_that (a ++ (b ++ c)) ≡ or_else (first_that a) (or_else (first_that b) (first_that c))
first_append_three a b c = first_append a (b ++ c) ∙ ap (or_else (first_that a)) (first_append b c)

-- Where three orders in a row answer no number, none of them does.
pub accepted_append_three : (a b c : List Rule) → first_that (a ++ (b ++ c)) ≡ accepted →
    (first_that a ≡ accepted) × (first_that b ≡ accepted) × (first_that c ≡ accepted)
accepted_append_three a b c e =
    let r = accepted_append a (b ++ c) e in
    let q = accepted_append b c r.1 in
    (r.0, q.0, q.1)

-- An order with a rule more, right after the one with number k, answers what it answered, or else the rule applies and its
-- number is the answer.
pub inserted : (k : ℕ) (new : Rule) (rules : List Rule) →
    (first_that (right_after k new rules) ≡ first_that rules) ⊎
    ((new.applies ≡ true) × (first_that (right_after k new rules) ≡ refused new.number))
unfolding first_that right_after
inserted k new [] = inl refl
inserted k new (r ∷ rs) = at_rule (eqb r.number k) r.applies new.applies (inserted k new rs)
  where
    at_rule : (here applies more : Bool) →
        (first_that (right_after k new rs) ≡ first_that rs) ⊎
        ((more ≡ true) × (first_that (right_after k new rs) ≡ refused new.number)) →
        let old : Rule = r.number when applies in
        let order : List Rule = cond here (old ∷ new.number when more ∷ rs) (old ∷ right_after k new rs) in
        (first_that order ≡ first_that (old ∷ rs)) ⊎ ((more ≡ true) × (first_that order ≡ refused new.number))
    at_rule true true more w = inl refl
    at_rule true false true w = inr (refl, refl)
    at_rule true false false w = inl refl
    at_rule false true more w = inl refl
    at_rule false false more w = w

-- So it is as it was where the rule does not apply.
pub inserted_idle : (k : ℕ) (new : Rule) (rules : List Rule) → new.applies ≡ false →
    first_that (right_after k new rules) ≡ first_that rules
inserted_idle k new rules e = ⊎_elim (λ s. s) (λ w. absurd (true≢false (sym w.0 ∙ e))) (inserted k new rules)
