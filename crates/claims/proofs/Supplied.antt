-- What calls of each kind supply to the claims about all of them.
use mathlib.Core.Path.{◌≡◌, refl, ◌∙◌, ap}
use mathlib.Core.Logic.{◌⊎◌}
use mathlib.Core.List.{List, [], ◌∷◌, Memᴰ}
use Prim.Native.Nat.{ℕ, ◌≤◌}
use native.Mathlib.Omega.{arith}
use lib.ListN.{get_or}
use Rattle.bezier.specs.Exact.{Sample, no_index, index}
use Rattle.decide.specs.Refusal.{Verdict, accepted}
use Rattle.cube.specs.Cube.{Cell, place}
use Rattle.drawing.specs.declared.Choice.{Choice}
use Rattle.drawing.specs.declared.Choice.TheVariants.{Under}
use Rattle.drawing.specs.Object.{Object, curve, patch, solid, cell_of}
use Rattle.drawing.specs.Refusals.{Drawable, draw_verdict}
use Rattle.drawing.specs.Drawing.{written, cells, Drawing, drawing_of, judged_by}
use Rattle.drawing.proofs.Accepted.{draw_accepted}
use Rattle.drawing.proofs.Marked.{over_writes, under_fills, under_keeps, written_marked}
use Rattle.drawing.proofs.Drawn.{cells_are, Fits, drawing_fits}
use Rattle.chosen.specs.Chosen.{chosen_curve}
use Rattle.chosen.proofs.Orders.{accepted_as_drawn}
use Rattle.path.specs.Path.{path, path_drawing}
use Rattle.path.proofs.OfCurve.{path_fits}
use Rattle.strip.proofs.Orders.{accepted_by_main}
use Rattle.claims.specs.Demand3.{Call, draw_curve, draw_patch, draw_solid, draw_chosen, draw_path, draw_strip_curve, draw_strip_patch}
use Rattle.claims.specs.Demand3.{drawing_by, object_of, NearSample, NearInserted, Near, MarkedFromUnder, Holds}
use Rattle.claims.specs.Demand3.{JustDrawn, PathJustDrawn, After}
use Rattle.claims.specs.Paths.{FaceToFace}
use Rattle.claims.proofs.Accuracy.{accurate}
use Rattle.claims.proofs.Paths.{sample_near, face_to_face, inserted_on_path, inserted_near}

-- What an under drawing leaves is marked.
from_under : {m held byte : ℕ} → 1 ≤ m → byte ≡ written Under m held → MarkedFromUnder m held byte
from_under {m} {held} h e = record {
  is_marked = λ z. omega (arith, z, e, written_marked Under held h);
  its_mark = λ z. e ∙ under_fills m z;
  earlier_mark = λ n. e ∙ under_keeps m n;
}

module _ {S : ℕ} {o : Object} {grid gridAfter : List ℕ} where
  -- What a drawing leaves in a cell that it came to is what the accuracy rule asks.
  pub holding : {c : Cell} → 1 ≤ o.mark →
      get_or gridAfter (place S c) 0 ≡ written o.choice o.mark (get_or grid (place S c) 0) → Holds S o grid gridAfter c
  holding {c} h e = record {
    over_its_mark = λ k. e ∙ ap (λ k. written k o.mark (get_or grid (place S c) 0)) k ∙ over_writes o.mark _;
    under_a_mark = λ k. from_under h (e ∙ ap (λ k. written k o.mark (get_or grid (place S c) 0)) k);
  }

  -- An object of whatever kind, where the cells of its samples hold.
  just_drawn : Drawable S o → ((is : List ℕ) → Sample o.counts is → Holds S o grid gridAfter (cell_of o is)) →
      JustDrawn S o grid gridAfter
  just_drawn d holds =
      let w = accurate d in
      record {
        in_the_cube = w.in_the_cube;
        within_half_a_cell = w.within_half_a_cell;
        holding_its_mark = λ {sample = is} s. holds is s;
        by_at_most_one = w.by_at_most_one;
      }

-- What a drawing of an object supplies, by what its kind says of a cell near the object and of the grid just after it: it writes
-- the object's mark by the object's choice; an accepted one has a drawable object and fits; its cells are near; and where they
-- hold what the accuracy rule asks, the rest of the rule follows.
pub record Supplied (d : Drawing) (o : Object) (Near : Cell → Type 0) (After : (S : ℕ) (grid gridAfter : List ℕ) → Type 0) : Type 0 where
  pub mark : d.mark ≡ o.mark
  pub choice : d.choice ≡ o.choice
  pub drawable : (len : ℕ) → d.verdict len ≡ accepted → Drawable d.side o
  pub fits : (len : ℕ) → d.verdict len ≡ accepted → Fits d len
  pub near : {S : ℕ} → Drawable S o → (c : Cell) → Memᴰ c d.cells → Near c
  pub after : {S : ℕ} {grid gridAfter : List ℕ} → Drawable S o →
      ((c : Cell) → Memᴰ c d.cells → Holds S o grid gridAfter c) → After S grid gridAfter

-- A drawing that comes to the cells of its samples.
module _ {S : ℕ} (o : Object) (d : Drawable S o) where
  cells_near : (c : Cell) → Memᴰ c (cells o) → NearSample o c
  cells_near c m = sample_near d ((cells_are o c).0 m)

  cells_after : {grid gridAfter : List ℕ} → ((c : Cell) → Memᴰ c (cells o) → Holds S o grid gridAfter c) →
      JustDrawn S o grid gridAfter
  cells_after holds =
      just_drawn d (λ is s.
      holds (cell_of o is) ((cells_are o (cell_of o is)).1 (record { sample = is; is_sample = s; is_its_cell = refl })))

-- By whatever order, if document 01's accepts what it accepts.
samples_supplied : (side : ℕ) (o : Object) (v : ℕ → Verdict) → ((len : ℕ) → v len ≡ accepted → draw_verdict side len o ≡ accepted) →
    Supplied (judged_by v (drawing_of side o)) o (NearSample o) (λ S. JustDrawn S o)
samples_supplied side o v main = record {
  mark = refl;
  choice = refl;
  drawable = λ len e. ((draw_accepted side o len).0 (main len e)).0;
  fits = λ len e. let f = drawing_fits side o len (main len e) in
      record { cube = f.cube; mark = f.mark; inside = f.inside };
  near = λ d. cells_near o d;
  after = λ d. cells_after o d;
}

-- A drawing that comes to the cells of a path.
module _ {S : ℕ} (n : ℕ) (points : List ℕ) (mark : ℕ) (choice : Choice) (d : Drawable S (curve n points mark choice)) where
  abbrev o : Object
  o = curve n points mark choice

  on_path : FaceToFace S n points mark choice
  on_path = face_to_face n points mark choice d

  path_after : {grid gridAfter : List ℕ} → ((c : Cell) → Memᴰ c (path (cells o)) → Holds S o grid gridAfter c) →
      PathJustDrawn S o grid gridAfter
  path_after {grid} {gridAfter} holds = record {
    samples = just_drawn d at_sample;
    inserted_in_the_cube = λ {c = c} i. on_path.in_the_cube c (inserted_on_path n points mark choice d i);
    within_one_and_a_half = λ i. inserted_near n points mark choice d i;
    inserted_holding_its_mark = λ {c = c} i. holds c (inserted_on_path n points mark choice d i);
    share_a_face = on_path.share_a_face;
  }
    where
      at_sample : (is : List ℕ) → Sample (n ∷ []) is → Holds S o grid gridAfter (cell_of o is)
      at_sample _ (index h no_index) = holds _ (on_path.every_sample _ h)

path_supplied : (side n : ℕ) (points : List ℕ) (mark : ℕ) (choice : Choice) →
    let o : Object = curve n points mark choice in
    Supplied (path_drawing side o) o (λ c. NearSample o c ⊎ NearInserted o c) (λ S. PathJustDrawn S o)
path_supplied side n points mark choice = record {
  mark = refl;
  choice = refl;
  drawable = λ len e. ((draw_accepted side (curve n points mark choice) len).0 e).0;
  fits = path_fits side n points mark choice;
  near = λ d. (face_to_face n points mark choice d).near;
  after = λ d holds. path_after n points mark choice d holds;
}

-- Every call's drawing does.
pub supplied : (call : Call) → Supplied (drawing_by call) (object_of call) (Near call) (After call)
supplied (draw_curve side n points mark choice) = samples_supplied side (curve n points mark choice) _ (λ len e. e)
supplied (draw_patch side n m points mark choice) = samples_supplied side (patch n m points mark choice) _ (λ len e. e)
supplied (draw_solid side n m l points mark choice) = samples_supplied side (solid n m l points mark choice) _ (λ len e. e)
supplied (draw_chosen side points mark choice) =
    samples_supplied side (chosen_curve points mark choice) _ (λ len e. (accepted_as_drawn side points mark choice len).0 e)
supplied (draw_path side n points mark choice) = path_supplied side n points mark choice
supplied (draw_strip_curve side n points mark choice) =
    let o : Object = curve n points mark choice in samples_supplied side o _ (λ len e. accepted_by_main side len o e)
supplied (draw_strip_patch side n m points mark choice) =
    let o : Object = patch n m points mark choice in samples_supplied side o _ (λ len e. accepted_by_main side len o e)
