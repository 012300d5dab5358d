-- The long-step test in words: it is true exactly where some two neighbouring samples lie more than one cell apart.
use mathlib.Core.Path.{◌≡◌}
use mathlib.Core.Logic.{◌↔◌, ◌⊎◌, inl, inr, ⊎_elim}
use mathlib.Core.Bool.{Bool}
use mathlib.Core.List.{List, [], ◌∷◌}
use Prim.Native.Nat.{ℕ, suc, ◌+◌, ◌<◌}
use native.Mathlib.Nat.{le_of_suc-le-suc}
use native.Mathlib.Omega.{arith}
use lib.Dec.{T, ltb}
use Rattle.bezier.specs.Exact.{Sample, no_index, index}
use Rattle.decide.specs.Some.{some_below}
use Rattle.decide.proofs.Truth.{either, less, same_test}
use Rattle.decide.proofs.Some.{some_below_lem}
use Rattle.rounding.specs.Nearest.{AtMostOneApart}
use Rattle.neighbours.specs.Steps.{far_apart, some_sample, too_long, Neighbours, first, later, LongStep}

-- Two values lie more than one cell apart: one exceeds the other by more than the scale.
pub far_apart_lem : (s v w : ℕ) → T (far_apart s v w) ↔ ((v + s < w) ⊎ (w + s < v))
unfolding far_apart
far_apart_lem s v w = (
  λ t. ⊎_elim (λ a. inl ((less _ _).0 a)) (λ b. inr ((less _ _).0 b)) ((either (ltb (v + s) w) (ltb (w + s) v)).0 t),
  λ h. (either (ltb (v + s) w) (ltb (w + s) v)).1 (⊎_elim (λ a. inl ((less _ _).1 a)) (λ b. inr ((less _ _).1 b)) h),
)

-- Whichever of the two comes first.
pub far_either_way : (s v w : ℕ) → far_apart s v w ≡ far_apart s w v
far_either_way s v w = same_test (far_apart s v w) (far_apart s w v) (exchange v w) (exchange w v)
  where
    exchange : (v w : ℕ) → T (far_apart s v w) → T (far_apart s w v)
    exchange v w t = (far_apart_lem s w v).1 (⊎_elim (λ l. inr l) (λ l. inl l) ((far_apart_lem s v w).0 t))

-- Otherwise they are at most one cell apart.
pub not_far_apart : (s v w : ℕ) → ¬ T (far_apart s v w) → AtMostOneApart s v w
not_far_apart s v w near =
    let up : ¬ (v + s < w) = λ l. near ((far_apart_lem s v w).1 (inl l)) in
    let down : ¬ (w + s < v) = λ l. near ((far_apart_lem s v w).1 (inr l)) in
    record { up = omega arith; down = omega arith }

found_sample : (ns : List ℕ) (p : List ℕ → Bool) → T (some_sample ns p) → (is : List ℕ) × Sample ns is × T (p is)
unfolding some_sample
found_sample [] p t = ([], no_index, t)
found_sample (n ∷ ns) p t =
    let w = (some_below_lem (λ i. some_sample ns (λ is. p (i ∷ is))) (suc n)).0 t in
    let u = found_sample ns (λ is. p (w.0 ∷ is)) w.2 in
    (w.0 ∷ u.0, index (le_of_suc-le-suc w.1) u.1, u.2)

seen_sample : {ns is : List ℕ} (p : List ℕ → Bool) → Sample ns is → T (p is) → T (some_sample ns p)
unfolding some_sample
seen_sample p no_index t = t
seen_sample p (index {n} {i} {ns} {is} h s) t =
    (some_below_lem (λ j. some_sample ns (λ js. p (j ∷ js))) (suc n)).1
    (i, omega arith, seen_sample (λ js. p (i ∷ js)) s t)

-- Some sample passes.
some_sample_lem : (ns : List ℕ) (p : List ℕ → Bool) → T (some_sample ns p) ↔ ((is : List ℕ) × Sample ns is × T (p is))
some_sample_lem ns p = (found_sample ns p, λ w. seen_sample p w.1 w.2)

module _ (s : ℕ) where
  -- The test's first part, at index i of the first parameter.
  first_far : List ℕ → (List ℕ → ℕ) → ℕ → Bool
  first_far ns f i = some_sample ns (λ is. far_apart s (f (i ∷ is)) (f (suc i ∷ is)))

  -- The test's second part, at index i of the first parameter.
  later_far : List ℕ → (List ℕ → ℕ) → ℕ → Bool
  later_far ns f i = too_long s ns (λ is. f (i ∷ is))

  found_long : (ns : List ℕ) (f : List ℕ → ℕ) → T (too_long s ns f) → LongStep s ns f
  unfolding too_long first_far later_far
  found_long [] f t = absurd t
  found_long (n ∷ ns) f t =
      ⊎_elim
      (λ a. let w = (some_below_lem (first_far ns f) _).0 a in
      let u = (some_sample_lem ns (λ is. far_apart s (f (w.0 ∷ is)) (f (suc w.0 ∷ is)))).0 w.2 in
      record {
        from = w.0 ∷ u.0;
        to = suc w.0 ∷ u.0;
        neighbours = first {n = n} {i = w.0} (omega (arith, w.1)) u.1;
        far = u.2;
      })
      (λ b. let w = (some_below_lem (later_far ns f) _).0 b in
      let l = found_long ns (λ is. f (w.0 ∷ is)) w.2 in
      record {
        from = w.0 ∷ l.from;
        to = w.0 ∷ l.to;
        neighbours = later {n = n} {i = w.0} (omega (arith, w.1)) l.neighbours;
        far = l.far;
      })
      ((either (some_below _ (first_far ns f)) _).0 t)

  seen_long : {ns is js : List ℕ} (f : List ℕ → ℕ) → Neighbours ns is js → T (far_apart s (f is) (f js)) → T (too_long s ns f)
  unfolding too_long first_far later_far
  seen_long f (first {n} {i} {ns} {is} h b) t =
      (either (some_below _ (first_far ns f)) _).1
      (inl ((some_below_lem (first_far ns f) _).1
      (i, omega arith, (some_sample_lem ns (λ is. far_apart s (f (i ∷ is)) (f (suc i ∷ is)))).1 (is, b, t))))
  seen_long f (later {n} {i} {ns} h b) t =
      (either (some_below _ (first_far ns f)) _).1
      (inr ((some_below_lem (later_far ns f) _).1 (i, omega arith, seen_long (λ is. f (i ∷ is)) b t)))

  -- Steps are too long exactly where there is a long step.
  pub too_long_lem : (ns : List ℕ) (f : List ℕ → ℕ) → T (too_long s ns f) ↔ LongStep s ns f
  too_long_lem ns f = (found_long ns f, λ l. seen_long f l.neighbours l.far)
