-- What a grid holds after marks, over or under: at each of the places what a drawing that comes to it leaves there, and
-- elsewhere what it held. So neither the order of the places nor how often one is among them matters.
use mathlib.Core.Path.{◌≡◌, refl, sym, ◌∙◌, ap}
use mathlib.Core.Logic.{◌↔◌, ◌⊎◌, inl, inr, ⊎_elim}
use mathlib.Core.List.{List, [], ◌∷◌, ◌++◌, Memᴰ}
use Prim.Native.Nat.{ℕ, ◌≤◌, ◌<◌}
use native.Mathlib.Omega.{arith}
use lib.Dec.{eqb}
use lib.ListN.{length, get_or, set, length-set}
use lib.Seq.{get_or-set_same, get_or-set_other, ext_get_or}
use Rattle.decide.proofs.Truth.{decided, true_of, false_of, equal}
use Rattle.drawing.specs.declared.Choice.{Choice}
use Rattle.drawing.specs.declared.Choice.TheVariants.{Over, Under}
use Rattle.drawing.specs.Drawing.{written, marked}

-- An over drawing leaves its mark.
pub over_writes : (m held : ℕ) → written Over m held ≡ m
unfolding written
over_writes m held = refl

-- An under drawing leaves its mark in an unmarked cell, and what a marked one held.
pub under_fills : (m : ℕ) {held : ℕ} → held ≡ 0 → written Under m held ≡ m
unfolding written
under_fills m {held} e = rw (true_of (eqb held 0) ((equal held 0).1 e))

pub under_keeps : (m : ℕ) {held : ℕ} → ¬ (held ≡ 0) → written Under m held ≡ held
unfolding written
under_keeps m {held} n = rw (false_of (eqb held 0) (λ t. n ((equal held 0).0 t)))

-- A drawing leaves what a cell held, or its mark.
pub held_or_mark : (c : Choice) (m held : ℕ) → (written c m held ≡ held) ⊎ (written c m held ≡ m)
held_or_mark Over m held = inr (over_writes m held)
held_or_mark Under m held =
    ⊎_elim (λ t. inr (under_fills m ((equal held 0).0 t))) (λ f. inl (under_keeps m (λ e. f ((equal held 0).1 e))))
    (decided (eqb held 0))

-- Either way the cell is marked.
pub written_marked : (c : Choice) {m : ℕ} (held : ℕ) → 1 ≤ m → 1 ≤ written c m held
written_marked Over {m} held h = rw (over_writes m held) h
written_marked Under {m} held h =
    ⊎_elim (λ t. rw (under_fills m ((equal held 0).0 t)) h) (λ f. kept (λ e. f ((equal held 0).1 e))) (decided (eqb held 0))
  where
    kept : ¬ (held ≡ 0) → 1 ≤ written Under m held
    kept n = rw (under_keeps m n) (omega (arith, n))

-- To come to a cell once more changes nothing.
written_twice : (c : Choice) (m held : ℕ) → written c m (written c m held) ≡ written c m held
unfolding written
written_twice Over m held = refl
written_twice Under m held =
    ⊎_elim (λ same. ap (written Under m) same)
    (λ e. ap (written Under m) e ∙ again ∙ sym e)
    (held_or_mark Under m held)
  where
    again : written Under m m ≡ m
    again =
        ⊎_elim (λ t. under_fills m ((equal m 0).0 t)) (λ f. under_keeps m (λ e. f ((equal m 0).1 e))) (decided (eqb m 0))

-- The grid after a drawing has come to one place.
abbrev pub marked_at : Choice → (m : ℕ) (grid : List ℕ) (p : ℕ) → List ℕ
marked_at c m grid p = set grid p (written c m (get_or grid p 0))

module _ (c : Choice) (m : ℕ) where
  -- At the place, and elsewhere.
  pub at_place : (grid : List ℕ) (p q : ℕ) → q < length grid → q ≡ p →
      get_or (marked_at c m grid p) q 0 ≡ written c m (get_or grid q 0)
  at_place grid p q h e = rw e (get_or-set_same grid p (written c m (get_or grid p 0)) 0 (rw e at h))

  pub elsewhere : (grid : List ℕ) (p q : ℕ) → ¬ (q ≡ p) → get_or (marked_at c m grid p) q 0 ≡ get_or grid q 0
  elsewhere grid p q n = get_or-set_other grid p q (written c m (get_or grid p 0)) 0 n

  -- Whichever the place is, to come to q after it leaves what to come to q alone does.
  once : (grid : List ℕ) (p q : ℕ) → q < length grid → written c m (get_or (marked_at c m grid p) q 0) ≡ written c m (get_or grid q 0)
  once grid p q h =
      ⊎_elim (λ t. ap (written c m) (at_place grid p q h ((equal q p).0 t)) ∙ written_twice c m (get_or grid q 0))
      (λ f. ap (written c m) (elsewhere grid p q (λ e. f ((equal q p).1 e))))
      (decided (eqb q p))

  -- Marks leave the grid's length.
  pub length_marked : (ps grid : List ℕ) → length (marked c m ps grid) ≡ length grid
  unfolding marked
  length_marked [] grid = refl
  length_marked (p ∷ ps) grid = length_marked ps (marked_at c m grid p) ∙ length-set grid p (written c m (get_or grid p 0))

  -- Marks at some places and then at others.
  pub marked_append : (ps qs grid : List ℕ) → marked c m (ps ++ qs) grid ≡ marked c m qs (marked c m ps grid)
  unfolding marked
  marked_append [] qs grid = refl
  marked_append (p ∷ ps) qs grid = marked_append ps qs (marked_at c m grid p)

  -- A place holds what it held, or it is one of the places and holds what a drawing that comes to it leaves.
  pub marked_holds : (ps grid : List ℕ) (q : ℕ) → q < length grid →
      (get_or (marked c m ps grid) q 0 ≡ get_or grid q 0) ⊎
      (Memᴰ q ps × (get_or (marked c m ps grid) q 0 ≡ written c m (get_or grid q 0)))
  unfolding marked
  marked_holds [] grid q h = inl refl
  marked_holds (p ∷ ps) grid q h =
      ⊎_elim
      (λ same. ⊎_elim
      (λ t. let e : q ≡ p = (equal q p).0 t in inr (Memᴰ.head e, same ∙ at_place grid p q h e))
      (λ f. inl (same ∙ elsewhere grid p q (λ e. f ((equal q p).1 e))))
      (decided (eqb q p)))
      (λ w. inr (Memᴰ.tail w.0, w.1 ∙ once grid p q h))
      (marked_holds ps (marked_at c m grid p) q (rw length-set h))

  -- Each of the places holds it.
  pub marked_there : {q : ℕ} {ps : List ℕ} (grid : List ℕ) → q < length grid → Memᴰ q ps →
      get_or (marked c m ps grid) q 0 ≡ written c m (get_or grid q 0)
  unfolding marked
  marked_there {q} grid h (Memᴰ.head {x = p} {xs = ps} e) =
      ⊎_elim (λ same. same ∙ at_place grid p q h e) (λ w. w.1 ∙ once grid p q h)
      (marked_holds ps (marked_at c m grid p) q (rw length-set h))
  marked_there {q} grid h (Memᴰ.tail {x = p} l) =
      marked_there (marked_at c m grid p) (rw length-set h) l ∙ once grid p q h

  -- The same places in another order, or some of them more often, leave the same grid.
  pub marked_same : (ps qs grid : List ℕ) → ((q : ℕ) → Memᴰ q ps ↔ Memᴰ q qs) →
      marked c m ps grid ≡ marked c m qs grid
  marked_same ps qs grid same =
      ext_get_or 0 (marked c m ps grid) (marked c m qs grid) (length_marked ps grid ∙ sym (length_marked qs grid))
      (λ q h. each q (rw (length_marked ps grid) at h))
    where
      each : (q : ℕ) → q < length grid → get_or (marked c m ps grid) q 0 ≡ get_or (marked c m qs grid) q 0
      each q h =
          ⊎_elim
          (λ kept. ⊎_elim
          (λ kept'. kept ∙ sym kept')
          (λ w. marked_there grid h ((same q).1 w.0) ∙ sym w.1)
          (marked_holds qs grid q h))
          (λ w. w.1 ∙ sym (marked_there grid h ((same q).0 w.0)))
          (marked_holds ps grid q h)
