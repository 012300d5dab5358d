-- Document 01, "Steps too long": some two neighbouring samples lie more than one cell apart on an axis. Exactly one
-- cell apart is allowed.
use Rattle.std.specs.Prelude.{Bool, false, ◌||◌, List, [], ◌∷◌, ℕ, suc, ◌+◌, ◌≤◌, ◌<◌, T, ltb}
use Rattle.bezier.specs.Exact.{Sample}
use Rattle.decide.specs.Some.{some_below}

-- Two values over the scale s lie more than one cell apart.
unfoldable pub far_apart : (s v w : ℕ) → Bool
far_apart s v w = ltb (v + s) w || ltb (w + s) v

-- Some sample passes.
unfoldable pub some_sample : (counts : List ℕ) (p : List ℕ → Bool) → Bool
some_sample [] p = p []
some_sample (n ∷ ns) p = some_below (suc n) (λ i. some_sample ns (λ is. p (i ∷ is)))

-- Some two neighbours are more than one cell apart: neighbours along the first parameter, everywhere, or along a
-- later one, at every index of the first. For a patch these are neighbours along t and along u, for a solid along t, u and
-- v.
unfoldable pub too_long : (s : ℕ) (counts : List ℕ) (f : List ℕ → ℕ) → Bool
too_long s [] f = false
too_long s (n ∷ ns) f =
    some_below n (λ i. some_sample ns (λ is. far_apart s (f (i ∷ is)) (f (suc i ∷ is)))) ||
    some_below (suc n) (λ i. too_long s ns (λ is. f (i ∷ is)))

-- Neighbouring samples: one index differs, by one. Of a curve they are samples i and i + 1, of a patch neighbours along t
-- and along u, of a solid along t, u and v. Their cells are those that follow one another in demand 3 (document 02, A.4).
pub data Neighbours : List ℕ → List ℕ → List ℕ → Type 0 where
  first : {n i : ℕ} {ns is : List ℕ} → i < n → Sample ns is → Neighbours (n ∷ ns) (i ∷ is) (suc i ∷ is)
  later : {n i : ℕ} {ns is js : List ℕ} → i ≤ n → Neighbours ns is js → Neighbours (n ∷ ns) (i ∷ is) (i ∷ js)

-- A long step of an object with the values f: neighbours more than one cell apart. `tooLong` is true exactly where
-- there is one.
pub record LongStep (s : ℕ) (counts : List ℕ) (f : List ℕ → ℕ) : Type 0 where
  pub from : List ℕ
  pub to : List ℕ
  pub neighbours : Neighbours counts from to
  pub far : T (far_apart s (f from) (f to))
