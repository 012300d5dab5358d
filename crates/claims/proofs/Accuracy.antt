-- The accuracy rule holds for objects in any number of parameters; curve, patch and solid are its instances.
use mathlib.Core.Path.{◌≡◌, refl, ◌∙◌, ap, subst}
use mathlib.Core.Logic.{◌↔◌}
use mathlib.Core.Bool.{Bool, true, false, cond}
use mathlib.Core.List.{List, [], ◌∷◌}
use Prim.Native.Nat.{ℕ, ◌+◌, ◌*◌}
use native.Mathlib.Omega.{arith}
use lib.Dec.{T}
use Rattle.bezier.specs.Exact.{scale, points as pointCount, value, Sample, no_index, index, Corner, no_corner}
use Rattle.bezier.specs.Exact as corner
use Rattle.decide.specs.Refusal.{accepted}
use Rattle.neighbours.specs.Steps.{Neighbours, first, later, LongStep}
use Rattle.cube.specs.Cube.{Axis}
use Rattle.drawing.specs.declared.Choice.{Choice}
use Rattle.drawing.specs.Object.{Object, curve, patch, solid, coordinate, scale_of, exact, cell_of}
use Rattle.drawing.specs.Refusals.{steps_too_long, sample_count, check_verdict, Drawable}
use Rattle.drawing.proofs.Accepted.{steps_too_long_lem, check_accepted}
use Rattle.drawing.proofs.Cells.{cell_within, cell_inside, corner_cell, cells_next_to}
use Rattle.claims.specs.Demand3.{Accurate}
use Rattle.claims.specs.Accuracy.{Placed, OfCurve, OfPatch, OfSolid, Far, SolidLongStep, along_t, along_u, along_v}
use Rattle.claims.specs.Accuracy.{SolidInWords, Claim}

pub accurate : {S : ℕ} {o : Object} → Drawable S o → Accurate S o
accurate d = record {
  in_the_cube = λ s. cell_inside d s;
  within_half_a_cell = λ {sample = is} s. cell_within d is;
  by_at_most_one = λ n. cells_next_to d n;
}

module _ {S : ℕ} {o : Object} (w : Accurate S o) where
  placed : {sample : List ℕ} → Sample o.counts sample → Placed S o sample
  placed s = (w.in_the_cube s, w.within_half_a_cell s)

of_curve : {S n : ℕ} {points : List ℕ} {mark : ℕ} {choice : Choice} →
    let o : Object = curve n points mark choice in Accurate S o → OfCurve S n o
of_curve w = record {
  samples = λ i hi. placed w (index hi no_index);
  along_t = λ i hi. w.by_at_most_one (first hi no_index);
}

of_patch : {S n m : ℕ} {points : List ℕ} {mark : ℕ} {choice : Choice} →
    let o : Object = patch n m points mark choice in Accurate S o → OfPatch S n m o
of_patch w = record {
  samples = λ i j hi hj. placed w (index hi (index hj no_index));
  along_t = λ i j hi hj. w.by_at_most_one (first hi (index hj no_index));
  along_u = λ i j hi hj. w.by_at_most_one (later hi (first hj no_index));
}

-- An index that is 0 or its step count, before a corner of the later parameters.
at_end : (b : Bool) {n p : ℕ} {ns is : List ℕ} → Corner ns is p →
    Corner (n ∷ ns) (cond b n 0 ∷ is) (pointCount ns * cond b 3 0 + p)
at_end true {n} {p} {ns} c =
    let e : 3 * pointCount ns + p ≡ pointCount ns * 3 + p = omega arith in subst (Corner (n ∷ ns) _) e (corner.last c)
at_end false {n} {p} {ns} c =
    let e : p ≡ pointCount ns * 0 + p = omega arith in subst (Corner (n ∷ ns) _) e (corner.first c)

module _ (n m l : ℕ) (points : List ℕ) (mark : ℕ) (choice : Choice) where
  abbrev o : Object
  o = solid n m l points mark choice

  corners : {S : ℕ} → Drawable S o → (p q r : Bool) (a : Axis) →
      cell_of o (cond p n 0 ∷ cond q m 0 ∷ cond r l 0 ∷ []) a ≡ coordinate points a (16 * cond p 3 0 + 4 * cond q 3 0 + cond r 3 0)
  unfolding pointCount
  corners d p q r a =
      let e : 16 * cond p 3 0 + (4 * cond q 3 0 + (1 * cond r 3 0 + 0)) ≡ 16 * cond p 3 0 + 4 * cond q 3 0 + cond r 3 0 = omega arith in
      corner_cell d (at_end p (at_end q (at_end r no_corner))) a ∙ ap (coordinate points a) e

  of_solid : {S : ℕ} → Drawable S o → OfSolid S n m l o
  of_solid d =
      let w = accurate d in
      record {
        samples = λ i j k hi hj hk. placed w (index hi (index hj (index hk no_index)));
        along_t = λ i j k hi hj hk. w.by_at_most_one (first hi (index hj (index hk no_index)));
        along_u = λ i j k hi hj hk. w.by_at_most_one (later hi (first hj (index hk no_index)));
        along_v = λ i j k hi hj hk. w.by_at_most_one (later hi (later hj (first hk no_index)));
        corners = corners d;
      }

  -- A long step, by its parameter.
  by_parameter : {a : Axis} {is js : List ℕ} → Neighbours (n ∷ m ∷ l ∷ []) is js → Far o a is js → SolidLongStep n m l o a
  by_parameter (first hi (index hj (index hk no_index))) far = along_t hi hj hk far
  by_parameter (later hi (first hj (index hk no_index))) far = along_u hi hj hk far
  by_parameter (later hi (later hj (first hk no_index))) far = along_v hi hj hk far
  by_parameter {a = a} (later {i = i} hi (later hj (later {is = is} {js = js} _ beyond))) far = elim beyond [ ]

  as_neighbours : {a : Axis} → SolidLongStep n m l o a → LongStep (scale_of o) (n ∷ m ∷ l ∷ []) (exact o a)
  as_neighbours (along_t hi hj hk far) =
      record { from = _; to = _; neighbours = first hi (index hj (index hk no_index)); far = far }
  as_neighbours (along_u hi hj hk far) =
      record { from = _; to = _; neighbours = later hi (first hj (index hk no_index)); far = far }
  as_neighbours (along_v hi hj hk far) =
      record { from = _; to = _; neighbours = later hi (later hj (first hk no_index)); far = far }

  in_words : SolidInWords n m l o
  unfolding scale pointCount value exact sample_count
  in_words = record {
    scale_is = omega arith;
    value_is = λ i j k a. refl;
    so_many_samples = omega arith;
    too_long = (
      λ t. let w = (steps_too_long_lem o).0 t in (w.0, by_parameter w.1.neighbours w.1.far),
      λ w. (steps_too_long_lem o).1 (w.0, as_neighbours w.1),
    );
  }

pub claim : Claim
claim = record {
  any_object = λ S o e. accurate ((check_accepted S o).0 e);
  any_corner = λ S o e c. corner_cell ((check_accepted S o).0 e) c;
  of_curve = λ S n points mark choice e. of_curve (accurate ((check_accepted S (curve n points mark choice)).0 e));
  of_patch = λ S n m points mark choice e. of_patch (accurate ((check_accepted S (patch n m points mark choice)).0 e));
  of_solid = λ S n m l points mark choice e. of_solid n m l points mark choice ((check_accepted S (solid n m l points mark choice)).0 e);
  solid_in_words = in_words;
}
