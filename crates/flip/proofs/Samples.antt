-- Objects with the same samples in another order: the same refusals, and drawings that do the same.
use mathlib.Core.Path.{◌≡◌, refl, ◌∙◌, ap, fun_ext, subst}
use mathlib.Core.Logic.{◌↔◌, ◌⊎◌, ⊎_elim}
use mathlib.Core.Bool.{Bool, false, not}
use mathlib.Core.List.{List, Memᴰ}
use Prim.Native.Nat.{ℕ, ◌*◌}
use lib.Dec.{T, ltb, eqb}
use Rattle.bezier.specs.Exact.{Sample}
use Rattle.decide.specs.Some.{some_of}
use Rattle.decide.specs.Refusal.{Verdict, first_that}
use Rattle.decide.proofs.Truth.{same_test}
use Rattle.neighbours.specs.Steps.{far_apart, Neighbours, LongStep}
use Rattle.neighbours.proofs.Long.{far_either_way}
use Rattle.neighbours.proofs.Pairs.{neighbours_pairs}
use Rattle.cube.specs.Cube.{Axis, Cell, volume}
use Rattle.drawing.specs.Object.{Object, scale_of, exact, cell_of}
use Rattle.drawing.specs.Refusals.{count_out, coordinate_out, steps_too_long, sample_count}
use Rattle.drawing.specs.Refusals.{order, drawing_order, draw_verdict, list_verdict, check_verdict}
use Rattle.drawing.specs.Drawing.{cells, drawing_of, judged_by}
use Rattle.drawing.proofs.Accepted.{steps_too_long_lem}
use Rattle.drawing.proofs.Drawn.{cells_are}
use Rattle.scan.proofs.Alike.{Alike}
use Rattle.strip.specs.Strip.{count_above, strip_order, strip_verdict, strip_drawing}

-- Every sample of o is one of p, with the same exact value, and neighbours are neighbours, one way round or the other.
pub record Among (o p : Object) : Type 0 where
  pub scales : scale_of o ≡ scale_of p
  pub to : List ℕ → List ℕ
  pub sample : {is : List ℕ} → Sample o.counts is → Sample p.counts (to is)
  pub value : {is : List ℕ} → Sample o.counts is → (a : Axis) → exact o a is ≡ exact p a (to is)
  pub neighbours : {is js : List ℕ} → Neighbours o.counts is js →
      Neighbours p.counts (to is) (to js) ⊎ Neighbours p.counts (to js) (to is)

module _ {o p : Object} (w : Among o p) where
  -- The same value has the same cell.
  pub same_cell : {is : List ℕ} → Sample o.counts is → cell_of o is ≡ cell_of p (w.to is)
  unfolding cell_of
  same_cell s = fun_ext (λ a. rw (w.scales, w.value s a))

  among_cells : (c : Cell) → Memᴰ c (cells o) → Memᴰ c (cells p)
  among_cells c m =
      let s = (cells_are o c).0 m in
      (cells_are p c).1 (record {
        sample = w.to s.sample;
        is_sample = w.sample s.is_sample;
        is_its_cell = s.is_its_cell ∙ same_cell s.is_sample;
      })

  -- A step that is too long stays so.
  far_among : (a : Axis) {is js : List ℕ} → Neighbours o.counts is js →
      far_apart (scale_of o) (exact o a is) (exact o a js) ≡ far_apart (scale_of p) (exact p a (w.to is)) (exact p a (w.to js))
  far_among a n =
      let both = (neighbours_pairs o.counts _ _).0 n in
      rw (w.scales, w.value both.2 a, w.value both.3 a)

  long_among : (a : Axis) → LongStep (scale_of o) o.counts (exact o a) → LongStep (scale_of p) p.counts (exact p a)
  long_among a l =
      let there = subst T (far_among a l.neighbours) l.far in
      ⊎_elim
      (λ n. record { from = w.to l.from; to = w.to l.to; neighbours = n; far = there })
      (λ n. record {
        from = w.to l.to;
        to = w.to l.from;
        neighbours = n;
        far = subst T (far_either_way (scale_of p) (exact p a (w.to l.from)) (exact p a (w.to l.to))) there;
      })
      (w.neighbours l.neighbours)

  too_long_among : T (steps_too_long o) → T (steps_too_long p)
  too_long_among t = let l = (steps_too_long_lem o).0 t in (steps_too_long_lem p).1 (l.0, long_among l.0 l.1)

-- The same samples in another order, with the same mark and choice; every test of the counts finds the same, and so does 14.
pub record Reordered (o p : Object) : Type 0 where
  pub there : Among o p
  pub back : Among p o
  pub mark : o.mark ≡ p.mark
  pub choice : o.choice ≡ p.choice
  pub most : o.most ≡ p.most
  pub counts : (test : ℕ → Bool) → some_of test o.counts ≡ some_of test p.counts
  pub coordinates : (S : ℕ) → some_of (coordinate_out S) o.points ≡ some_of (coordinate_out S) p.points
  pub so_many : sample_count o.counts ≡ sample_count p.counts

module _ {o p : Object} (w : Reordered o p) where
  -- 15 finds the same pairs.
  pub same_long : steps_too_long o ≡ steps_too_long p
  same_long = same_test (steps_too_long o) (steps_too_long p) (too_long_among w.there) (too_long_among w.back)

  -- So every order is the same.
  same_order : (S : ℕ) (g m l : Bool) → order S o g m l ≡ order S p g m l
  unfolding order
  same_order S g m l = rw (same_long, w.coordinates S, w.most, w.counts (count_out p.most))

  same_drawing_order : (S gridLength : ℕ) → drawing_order S gridLength o ≡ drawing_order S gridLength p
  same_drawing_order S gridLength =
      let grid_wrong : Bool = not (eqb gridLength (volume S)) in
      same_order S grid_wrong (eqb o.mark 0) false ∙ ap (λ m. order S p grid_wrong (eqb m 0) false) w.mark

  same_draw_verdict : (S gridLength : ℕ) → draw_verdict S gridLength o ≡ draw_verdict S gridLength p
  unfolding draw_verdict
  same_draw_verdict S gridLength = ap first_that (same_drawing_order S gridLength)

  same_strip_verdict : (S gridLength : ℕ) → strip_verdict S gridLength o ≡ strip_verdict S gridLength p
  unfolding strip_order strip_verdict
  same_strip_verdict S gridLength = rw (same_drawing_order S gridLength, w.counts count_above)

  pub same_list_verdict : (S listLength : ℕ) → list_verdict S listLength o ≡ list_verdict S listLength p
  unfolding list_verdict
  same_list_verdict S listLength =
      ap first_that (same_order S false false (ltb listLength (3 * sample_count o.counts)) ∙
      ap (λ k. order S p false false (ltb listLength (3 * k))) w.so_many)

  pub same_check_verdict : (S : ℕ) → check_verdict S o ≡ check_verdict S p
  unfolding check_verdict
  same_check_verdict S = ap first_that (same_order S false false false)

  -- And the cells are the same.
  pub same_cells : (c : Cell) → Memᴰ c (cells o) ↔ Memᴰ c (cells p)
  same_cells c = (among_cells w.there c, among_cells w.back c)

-- Drawings of objects with the same samples do the same, each with an order of its own that finds the same: document 01's order,
-- and the strip's.
module _ (S : ℕ) {o p : Object} (w : Reordered o p) where
  pub judged_alike : (v u : ℕ → Verdict) → ((gridLength : ℕ) → v gridLength ≡ u gridLength) →
      Alike (judged_by v (drawing_of S o)) (judged_by u (drawing_of S p))
  judged_alike v u same = record {
    side = refl;
    cells = same_cells w;
    mark = w.mark;
    choice = w.choice;
    answer = w.so_many;
    verdict = same;
  }

  pub drawings_alike : Alike (drawing_of S o) (drawing_of S p)
  drawings_alike = judged_alike _ _ (same_draw_verdict w S)

  pub strips_alike : Alike (strip_drawing S o) (strip_drawing S p)
  strips_alike = judged_alike _ _ (same_strip_verdict w S)
