-- The strip's order beside the main path's.
use mathlib.Core.Path.{◌≡◌, refl, sym, ◌∙◌, ap}
use mathlib.Core.Logic.{◌↔◌, ◌⊎◌, inl, inr, ⊎_elim}
use mathlib.Core.Bool.{Bool, true, false, ◌||◌}
use mathlib.Core.List.{List, [], ◌∷◌}
use Prim.Native.Nat.{ℕ}
use lib.ListN.{take, drop}
use Rattle.std.specs.List.{list_any}
use Rattle.decide.specs.Some.{some_of}
use Rattle.decide.specs.Refusal.{◌when◌, accepted, refused, right_after, numbers}
use Rattle.decide.proofs.Truth.{both_false}
use Rattle.decide.proofs.FirstThat.{NoneApplies, inserted, inserted_idle, accepted_none, refused_at}
use Rattle.drawing.specs.Object.{Object}
use Rattle.drawing.specs.Refusals.{order, drawing_order, draw_verdict}
use Rattle.drawing.specs.Drawing.{drawing_of}
use Rattle.scan.proofs.Alike.{Alike}
use Rattle.strip.specs.Strip.{side_above, count_above, strip_order, strip_verdict, strip_drawing, beyond}

module _ (S len : ℕ) (o : Object) where
  -- Drawing order: 11, 23, 21, 12, 13, 24, 14, 15, where 22, which a drawing has not, stands before 14.
  pub order_numbers : numbers (strip_order S len o) ≡ 11 ∷ 23 ∷ 21 ∷ 12 ∷ 13 ∷ 24 ∷ 22 ∷ 14 ∷ 15 ∷ []
  unfolding numbers right_after order strip_order
  order_numbers = refl

  -- What the strip takes is judged as on the main path.
  pub taken : beyond S o ≡ false → strip_verdict S len o ≡ draw_verdict S len o
  unfolding draw_verdict strip_order strip_verdict beyond
  taken e =
      let w = both_false (side_above S) (some_of count_above o.counts) e in
      inserted_idle 11 (23 when side_above S) _ w.0 ∙ inserted_idle 13 (24 when some_of count_above o.counts) _ w.1

  -- All else is too, or gets a number of the strip's own.
  pub as_main :
      (strip_verdict S len o ≡ draw_verdict S len o) ⊎ (strip_verdict S len o ≡ refused 23) ⊎ (strip_verdict S len o ≡ refused 24)
  unfolding draw_verdict strip_order strip_verdict
  as_main =
      let main = drawing_order S len o in
      let new = 24 when some_of count_above o.counts in
      ⊎_elim (λ s. ⊎_elim (λ t. inl (s ∙ t)) (λ w. inr (inr (s ∙ w.1))) (inserted 13 new main)) (λ w. inr (inl w.1))
      (inserted 11 (23 when side_above S) (right_after 13 new main))

  -- What the strip does not take it refuses.
  pub accepted_taken : strip_verdict S len o ≡ accepted → beyond S o ≡ false
  unfolding right_after order strip_order strip_verdict beyond
  accepted_taken e = let n = (accepted_none (strip_order S len o)).0 e in rw (n.1.0, n.1.1.1.1.1.0)

  -- What it accepts the main path accepts.
  pub accepted_by_main : strip_verdict S len o ≡ accepted → draw_verdict S len o ≡ accepted
  accepted_by_main e = sym (taken (accepted_taken e)) ∙ e

  -- Its own numbers, each where its rule applies and none before it does.
  pub refused_23 : (strip_verdict S len o ≡ refused 23) ↔ (NoneApplies (take 1 (strip_order S len o)) × (side_above S ≡ true))
  unfolding some_of numbers right_after order strip_order strip_verdict
  refused_23 = refused_at 23 (side_above S) (take 1 (strip_order S len o)) (drop 2 (strip_order S len o)) refl refl

  pub refused_24 :
      (strip_verdict S len o ≡ refused 24) ↔
      (NoneApplies (take 5 (strip_order S len o)) × (some_of count_above o.counts ≡ true))
  unfolding some_of numbers right_after order strip_order strip_verdict
  refused_24 =
      refused_at 24 (some_of count_above o.counts) (take 5 (strip_order S len o)) (drop 6 (strip_order S len o)) refl refl

-- So what the strip takes it draws as the main path does.
pub taken_alike : (S : ℕ) (o : Object) → beyond S o ≡ false → Alike (drawing_of S o) (strip_drawing S o)
taken_alike S o e = record {
  side = refl;
  cells = λ c. (λ m. m, λ m. m);
  mark = refl;
  choice = refl;
  answer = refl;
  verdict = λ len. sym (taken S len o e);
}

-- Some element passes, as the definition says it and as the library does.
pub any_passes : (p : ℕ → Bool) (l : List ℕ) → list_any p l ≡ some_of p l
unfolding some_of
any_passes p [] = refl
any_passes p (a ∷ l) = ap (p a ||◌) (any_passes p l)
