-- New cells. A drawing that comes to an unmarked cell leaves one unmarked cell less, and one that comes to a marked cell
-- leaves as many, over or under. So a drawing leaves at most as many as there were, and the difference is the number of
-- different places that it comes to and that were unmarked.
use mathlib.Core.Path.{◌≡◌, refl, sym, ◌∙◌, ap, ap₂}
use mathlib.Core.Logic.{◌↔◌, ⊎_elim}
use mathlib.Core.Bool.{Bool, true, false, cond}
use mathlib.Core.List.Memᴰ
use mathlib.Core.List.{List, [], ◌∷◌, map, Memᴰ}
use Prim.Native.Nat.{ℕ, zero, suc, ◌+◌, ◌≤◌, ◌<◌}
use native.Mathlib.Omega.{arith}
use lib.Dec.{eqb}
use lib.ListN.{length, get_or, set, replicate, length-set}
use Rattle.decide.specs.Refusal.{accepted}
use Rattle.decide.proofs.FirstThat.{by_verdict}
use Rattle.decide.proofs.Truth.{decided, true_of, false_of, same_test, equal}
use Rattle.cube.specs.Cube.{place}
use Rattle.drawing.specs.declared.Choice.{Choice}
use Rattle.drawing.specs.Drawing.{written, marked, Drawing, drawn_by, in_turn}
use Rattle.drawing.specs.NewCells.{unmarked_cells, new_cells, new_in_turn, Different}
use Rattle.drawing.proofs.Marked.{marked_at, written_marked, at_place, elsewhere, length_marked, marked_holds, marked_there}
use Rattle.drawing.proofs.Drawn.{PlaceOf, of_cell, place_listed, Fits, cell_below, drawn_refused, drawn_accepted}

-- In a cleared grid all cells are unmarked.
pub unmarked_cleared : (n : ℕ) → unmarked_cells (replicate n 0) ≡ n
unfolding unmarked_cells
unmarked_cleared zero = refl
unmarked_cleared (suc n) = omega (arith, unmarked_cleared n)

-- What a byte adds to the unmarked cells is at most one.
one_at_most : (b : Bool) → cond b 1 0 ≤ 1
one_at_most true = omega arith
one_at_most false = omega arith

-- No more cells are unmarked than there are.
pub unmarked_at_most : (grid : List ℕ) → unmarked_cells grid ≤ length grid
unfolding unmarked_cells
unmarked_at_most [] = omega arith
unmarked_at_most (mark ∷ grid) = omega (arith, one_at_most (eqb mark 0), unmarked_at_most grid)

-- One mark: the cell is new where it was unmarked.
pub unmarked_set : (m : ℕ) → 1 ≤ m → (grid : List ℕ) (p : ℕ) → p < length grid →
    cond (eqb (get_or grid p 0) 0) 1 0 + unmarked_cells (set grid p m) ≡ unmarked_cells grid
unfolding unmarked_cells
unmarked_set m h [] p l = absurd (omega arith)
unmarked_set m h (b ∷ grid) zero l =
    let marks : eqb m 0 ≡ false = false_of (eqb m 0) (λ t. omega (arith, h, (equal m 0).0 t)) in rw marks (omega arith)
unmarked_set m h (b ∷ grid) (suc p) l = omega (arith, unmarked_set m h grid p (omega arith))

-- What is lost in no subtraction is the number of new cells.
pub new_of_lem : (before after : List ℕ) {new : ℕ} → new + unmarked_cells after ≡ unmarked_cells before →
    new ≡ new_cells before after
unfolding new_cells
new_of_lem before after e = omega (arith, e)

pub new_back : (before after : List ℕ) → unmarked_cells after ≤ unmarked_cells before →
    new_cells before after + unmarked_cells after ≡ unmarked_cells before
unfolding new_cells
new_back before after h = omega (arith, h)

-- Marks at places of the grid, over or under.
module _ (c : Choice) (m : ℕ) (mark : 1 ≤ m) where
  -- The places that are unmarked when the drawing comes to them.
  unfoldable fresh_places : (ps grid : List ℕ) → List ℕ
  fresh_places [] grid = []
  fresh_places (p ∷ ps) grid =
      cond (eqb (get_or grid p 0) 0) (p ∷ fresh_places ps (marked_at c m grid p)) (fresh_places ps (marked_at c m grid p))

  -- Each place is a byte of the grid.
  abbrev InGrid : (ps grid : List ℕ) → Type 0
  InGrid ps grid = (q : ℕ) → Memᴰ q ps → q < length grid

  -- And of the grid with a mark more.
  later : (p : ℕ) (ps grid : List ℕ) → InGrid (p ∷ ps) grid → InGrid ps (marked_at c m grid p)
  later p ps grid h q l = rw length-set (h q (Memᴰ.tail l))

  -- They are as many as there are unmarked cells less afterwards.
  fresh_count : (ps grid : List ℕ) → InGrid ps grid →
      length (fresh_places ps grid) + unmarked_cells (marked c m ps grid) ≡ unmarked_cells grid
  unfolding fresh_places marked
  fresh_count [] grid h = omega arith
  fresh_count (p ∷ ps) grid h =
      let one = unmarked_set (written c m (get_or grid p 0)) (written_marked c (get_or grid p 0) mark) grid p (h p (Memᴰ.head refl)) in
      let rest = fresh_count ps (marked_at c m grid p) (later p ps grid h) in
      by_test (eqb (get_or grid p 0) 0) _ _ one rest
    where
      by_test : (b : Bool) (u v : ℕ) →
          cond b 1 0 + u ≡ unmarked_cells grid → length (fresh_places ps (marked_at c m grid p)) + v ≡ u →
          length (cond b (p ∷ fresh_places ps (marked_at c m grid p)) (fresh_places ps (marked_at c m grid p))) + v ≡ unmarked_cells grid
      by_test true u v one rest = omega (arith, one, rest)
      by_test false u v one rest = omega (arith, one, rest)

  -- A place is one of them exactly if it is one of the places and was unmarked.
  fresh_are : (ps grid : List ℕ) → InGrid ps grid → (q : ℕ) →
      Memᴰ q (fresh_places ps grid) ↔ (Memᴰ q ps × (get_or grid q 0 ≡ 0))
  unfolding fresh_places
  fresh_are [] grid h q = (λ l. absurd (Memᴰ.not-nil l), λ w. absurd (Memᴰ.not-nil w.0))
  fresh_are (p ∷ ps) grid h q =
      let rest = fresh_are ps (marked_at c m grid p) (later p ps grid h) q in
      let here : p < length grid = h p (Memᴰ.head refl) in
      ⊎_elim
      (λ t. rw (true_of (eqb (get_or grid p 0) 0) t) (
        λ l. ⊎_elim
            (λ e. (Memᴰ.head e, ap (λ k. get_or grid k 0) e ∙ (equal (get_or grid p 0) 0).0 t))
            (λ k. let w = rest.0 k in (Memᴰ.tail w.0, before here w.1))
            (Memᴰ.cases_cons l),
        λ w. ⊎_elim
            (λ s. Memᴰ.head ((equal q p).0 s))
            (λ f. Memᴰ.tail (rest.1 (another (λ e. f ((equal q p).1 e)) w.0 w.1)))
            (decided (eqb q p)),
      ))
      (λ f. rw (false_of (eqb (get_or grid p 0) 0) f) (
        λ l. let w = rest.0 l in (Memᴰ.tail w.0, before here w.1),
        λ w. rest.1 (another (λ e. f ((equal (get_or grid p 0) 0).1 (ap (λ k. get_or grid k 0) (sym e) ∙ w.1))) w.0 w.1),
      ))
      (decided (eqb (get_or grid p 0) 0))
    where
      -- A cell that a drawing has come to is marked, so where the grid is unmarked then it was so before.
      before : p < length grid → get_or (marked_at c m grid p) q 0 ≡ 0 → get_or grid q 0 ≡ 0
      before here e =
          ⊎_elim
          (λ s. let k = (equal q p).0 s in
          absurd (omega (arith, e, at_place c m grid p q (rw k here) k, written_marked c (get_or grid q 0) mark)))
          (λ f. sym (elsewhere c m grid p q (λ k. f ((equal q p).1 k))) ∙ e)
          (decided (eqb q p))

      -- At another place the grid is as it was.
      another : ¬ (q ≡ p) → Memᴰ q (p ∷ ps) → get_or grid q 0 ≡ 0 → Memᴰ q ps × (get_or (marked_at c m grid p) q 0 ≡ 0)
      another n l e = (⊎_elim (λ k. absurd (n k)) (λ k. k) (Memᴰ.cases_cons l), elsewhere c m grid p q n ∙ e)

  -- No place is among them twice.
  fresh_different : (ps grid : List ℕ) → InGrid ps grid → Different (fresh_places ps grid)
  unfolding fresh_places
  fresh_different [] grid h = tt
  fresh_different (p ∷ ps) grid h =
      by_test (eqb (get_or grid p 0) 0) (fresh_different ps (marked_at c m grid p) (later p ps grid h))
      (λ l. omega (
        arith,
        ((fresh_are ps (marked_at c m grid p) (later p ps grid h) p).0 l).1,
        at_place c m grid p p (h p (Memᴰ.head refl)) refl,
        written_marked c (get_or grid p 0) mark,
      ))
    where
      by_test : (b : Bool) → Different (fresh_places ps (marked_at c m grid p)) → ¬ Memᴰ p (fresh_places ps (marked_at c m grid p)) →
          Different (cond b (p ∷ fresh_places ps (marked_at c m grid p)) (fresh_places ps (marked_at c m grid p)))
      by_test true d n = (n, d)
      by_test false d n = d

-- The places that an accepted drawing turns from unmarked to marked: those of its cells that were unmarked, each once, as many
-- as there are unmarked cells less afterwards.
pub record NewPlaces (d : Drawing) (grid : List ℕ) : Type 0 where
  pub places : List ℕ
  pub count : length places + unmarked_cells (drawn_by d grid) ≡ unmarked_cells grid
  pub are : (q : ℕ) → Memᴰ q places ↔ (PlaceOf d.side d.cells q × (get_or grid q 0 ≡ 0))
  pub different : Different places

module _ (d : Drawing) (grid : List ℕ) where
  pub new_places : d.verdict (length grid) ≡ accepted → Fits d (length grid) → NewPlaces d grid
  new_places e f =
      let ps : List ℕ = map (place d.side) d.cells in
      let inside : (q : ℕ) → Memᴰ q ps → q < length grid =
      λ q l. let p = of_cell d.side d.cells l in rw p.at (cell_below d grid f p.is_one) in
      record {
        places = fresh_places d.choice d.mark f.mark ps grid;
        count = rw (drawn_accepted d grid e) (fresh_count d.choice d.mark f.mark ps grid inside);
        are = λ q. let w = fresh_are d.choice d.mark f.mark ps grid inside q in (
          λ l. (of_cell d.side d.cells (w.0 l).0, (w.0 l).1),
          λ p. w.1 (place_listed d.side d.cells p.0, p.1),
        );
        different = fresh_different d.choice d.mark f.mark ps grid inside;
      }

  -- A drawing leaves at most as many unmarked cells as there were: an accepted one by the above, a refused one all.
  pub drawn_at_most : (d.verdict (length grid) ≡ accepted → Fits d (length grid)) → unmarked_cells (drawn_by d grid) ≤ unmarked_cells grid
  drawn_at_most fits =
      by_verdict (d.verdict (length grid)) _
      (λ e. omega (arith, (new_places e (fits e)).count))
      (λ k e. rw (drawn_refused d grid e) (omega arith))

-- Two grids of one length that are unmarked at the same places have as many unmarked cells.
unmarked_alike : (g h : List ℕ) → length g ≡ length h →
    ((q : ℕ) → q < length g → (get_or g q 0 ≡ 0) ↔ (get_or h q 0 ≡ 0)) → unmarked_cells g ≡ unmarked_cells h
unfolding unmarked_cells
unmarked_alike [] [] e same = refl
unmarked_alike [] (b ∷ h) e same = absurd (omega (arith, e))
unmarked_alike (a ∷ g) [] e same = absurd (omega (arith, e))
unmarked_alike (a ∷ g) (b ∷ h) e same =
    ap₂ (λ t k. cond t 1 0 + k)
    (same_test (eqb a 0) (eqb b 0)
    (λ t. (equal b 0).1 ((same 0 (omega arith)).0 ((equal a 0).0 t)))
    (λ t. (equal a 0).1 ((same 0 (omega arith)).1 ((equal b 0).0 t))))
    (unmarked_alike g h (omega (arith, e)) (λ q l. same (suc q) (omega (arith, l))))

-- Over and under leave the same cells unmarked.
module _ (m : ℕ) (mark : 1 ≤ m) (ps grid : List ℕ) where
  left_unmarked : (c d : Choice) (q : ℕ) → q < length grid →
      get_or (marked c m ps grid) q 0 ≡ 0 → get_or (marked d m ps grid) q 0 ≡ 0
  left_unmarked c d q h e =
      ⊎_elim
      (λ kept. ⊎_elim
      (λ kept'. kept' ∙ sym kept ∙ e)
      (λ w. absurd (not_left (marked_there c m grid h w.0)))
      (marked_holds d m ps grid q h))
      (λ w. absurd (not_left w.1))
      (marked_holds c m ps grid q h)
    where
      not_left : get_or (marked c m ps grid) q 0 ≡ written c m (get_or grid q 0) → ⊥
      not_left w = omega (arith, e, w, written_marked c (get_or grid q 0) mark)

  pub unmarked_either_way : (c d : Choice) → unmarked_cells (marked c m ps grid) ≡ unmarked_cells (marked d m ps grid)
  unmarked_either_way c d =
      unmarked_alike (marked c m ps grid) (marked d m ps grid) (length_marked c m ps grid ∙ sym (length_marked d m ps grid))
      (λ q l. let h = rw (length_marked c m ps grid) at l in (left_unmarked c d q h, left_unmarked d c q h))

-- New cells of calls in turn: nothing is lost in their sum.
pub turns_new : {C : Type 0} (draw : C → List ℕ → List ℕ) →
    ((c : C) (grid : List ℕ) → unmarked_cells (draw c grid) ≤ unmarked_cells grid) → (cs : List C) (grid : List ℕ) →
    new_in_turn draw cs grid + unmarked_cells (in_turn draw cs grid) ≡ unmarked_cells grid
unfolding new_in_turn in_turn
turns_new draw fewer [] grid = omega arith
turns_new draw fewer (c ∷ cs) grid =
    omega (arith, new_back grid (draw c grid) (fewer c grid), turns_new draw fewer cs (draw c grid))
