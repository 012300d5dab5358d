-- Parameters along which the points do not move change no cell: values and scale are those without them times one factor.
use mathlib.Core.Path.{◌≡◌, refl, sym, ◌∙◌, ap, fun_ext}
use mathlib.Core.Logic.{◌↔◌}
use mathlib.Core.List.{List, [], ◌∷◌, ◌++◌, map, Memᴰ}
use Prim.Native.Nat.{ℕ, zero, suc, ◌+◌, ◌-◌, ◌*◌, ◌<◌, zero-le}
use native.Mathlib.Nat.{mul-pos, mul-le-mul_right, mul-lt-mul_of_pos_right}
use native.Mathlib.Omega.{arith}
use lib.Dec.{lit<}
use lib.ListN.{length}
use Rattle.bezier.specs.Exact.{blend, scale, points as pointCount, value, Sample, no_index, index}
use Rattle.bezier.proofs.Mean.{value_above, value_below}
use Rattle.rounding.specs.Nearest.{Owns, nearest}
use Rattle.rounding.proofs.Nearest.{nearest_owns, nearest_only}
use Rattle.cube.specs.Cube.{Axis, Cell}
use Rattle.drawing.specs.Object.{Object, coordinate, scale_of, exact, cell_of}
use Rattle.drawing.specs.Refusals.{Drawable}
use Rattle.drawing.specs.Drawing.{cells, drawing_of}
use Rattle.drawing.proofs.Accepted.{draw_accepted, check_accepted}
use Rattle.drawing.proofs.Cells.{scale_of_positive}
use Rattle.drawing.proofs.Drawn.{cells_are, drawn_in_any_order}
use Rattle.claims.specs.Disguise.{longer, Still, SameCells, Claim}

-- Scale and points of all parameters are products.
scale_append : (ns ms : List ℕ) → scale (ns ++ ms) ≡ scale ns * scale ms
unfolding scale
scale_append [] ms = omega arith
scale_append (n ∷ ns) ms = rw (scale_append ns ms) (omega arith)

points_append : (ns ms : List ℕ) → pointCount (ns ++ ms) ≡ pointCount ns * pointCount ms
unfolding pointCount
points_append [] ms = omega arith
points_append (n ∷ ns) ms = rw (points_append ns ms) (omega arith)

-- Four terms with a factor.
with_factor : (u v w x a b c d s : ℕ) → u * (a * s) + v * (b * s) + w * (c * s) + x * (d * s) ≡ (u * a + v * b + w * c + x * d) * s
with_factor u v w x a b c d s = omega arith

blend_factor : (n i a b c d s : ℕ) → blend n i (a * s) (b * s) (c * s) (d * s) ≡ blend n i a b c d * s
unfolding blend
blend_factor n i a b c d s =
    with_factor ((n - i) * (n - i) * (n - i)) (3 * i * (n - i) * (n - i)) (3 * i * i * (n - i)) (i * i * i) a b c d s

-- The control values g, so many for each of h, are those of h.
abbrev Repeats : (many so_many : ℕ) (g h : ℕ → ℕ) → Type 0
Repeats many so_many g h = (p q : ℕ) → p < many → q < so_many → g (so_many * p + q) ≡ h p

-- In quarter k.
quarter : (k many so_many : ℕ) (g h : ℕ → ℕ) → k < 4 → Repeats (4 * many) so_many g h →
    Repeats many so_many (λ p. g (k * (many * so_many) + p)) (λ p. h (k * many + p))
quarter k many so_many g h hk e p q hp hq =
    let place : k * (many * so_many) + (so_many * p + q) ≡ so_many * (k * many + p) + q = omega arith in
    ap g place ∙ e (k * many + p) q (omega (arith, hp, mul-le-mul_right many hk)) hq

-- The value is that of the first parameters, times the scale of the others.
value_still : {ns is ms js : List ℕ} (g h : ℕ → ℕ) → Repeats (pointCount ns) (pointCount ms) g h → Sample ns is → Sample ms js →
    value (ns ++ ms) g (is ++ js) ≡ value ns h is * scale ms
unfolding value pointCount
value_still {ms = ms} g h e no_index t =
    let same : (k : ℕ) → k < pointCount ms → g k ≡ h 0 = λ k l. rw (← e 0 k (lit< tt) l) (ap g (omega arith)) in
    omega (
      arith,
      value_above g (h 0) t (λ k l. omega (arith, same k l)),
      value_below g (h 0) t (λ k l. omega (arith, same k l)),
    )
value_still {ms = ms} {js = js} g h e (index {n} {i} {ns} {is} hi s) t =
    let part : (k : ℕ) → k < 4 →
    value (ns ++ ms) (λ p. g (k * pointCount (ns ++ ms) + p)) (is ++ js) ≡ value ns (λ p. h (k * pointCount ns + p)) is * scale ms =
    λ k hk. rw (points_append ns ms)
    (value_still (λ p. g (k * (pointCount ns * pointCount ms) + p)) (λ p. h (k * pointCount ns + p))
    (quarter k (pointCount ns) (pointCount ms) g h hk e) s t) in
    rw (part 0 (lit< tt), part 1 (lit< tt), part 2 (lit< tt), part 3 (lit< tt)) (blend_factor n i _ _ _ _ (scale ms))

-- A value and its scale times one factor have the same coordinate.
nearest_factor : {s c : ℕ} → 0 < s → 0 < c → (v : ℕ) → nearest (s * c) (v * c) ≡ nearest s v
nearest_factor {s} {c} hs hc v = nearest_only (mul-pos hs hc) (owns (nearest_owns hs v))
  where
    owns : {d : ℕ} → Owns s d v → Owns (s * c) d (v * c)
    owns o = record {
      above = omega (arith, mul-lt-mul_of_pos_right o.above hc);
      up_to = omega (arith, mul-le-mul_right c o.up_to);
    }

-- A sample of all parameters is one of the first and one of the others.
split : (ns : List ℕ) {ms ks : List ℕ} → Sample (ns ++ ms) ks →
    (is js : List ℕ) × (ks ≡ is ++ js) × Sample ns is × Sample ms js
split [] {ks = ks} s = ([], ks, refl, no_index, s)
split (n ∷ ns) (index {i = i} h s) =
    let w = split ns s in (i ∷ w.0, w.1, ap (λ l. i ∷ l) w.2, index h w.3, w.4)

join : {ns is ms js : List ℕ} → Sample ns is → Sample ms js → Sample (ns ++ ms) (is ++ js)
join no_index t = t
join (index h s) t = index h (join s t)

at_0 : (ms : List ℕ) → Sample ms (map (λ _. 0) ms)
at_0 [] = no_index
at_0 (m ∷ ms) = index zero-le (at_0 ms)

module _ (o : Object) (most : ℕ) (further points : List ℕ) (still : Still o (pointCount further) points) where
  abbrev l : Object
  l = longer o most further points

  module _ {S : ℕ} (d : Drawable S l) where
    positive : (0 < scale_of o) × (0 < scale further)
    positive = factors (scale_of o) (scale further) (rw (← scale_append o.counts further) (scale_of_positive d))
      where
        factors : (a b : ℕ) → 0 < a * b → (0 < a) × (0 < b)
        factors zero b h = absurd (omega arith)
        factors (suc a) zero h = absurd (omega arith)
        factors (suc a) (suc b) h = (omega arith, omega arith)

    same_cell : {is js : List ℕ} → Sample o.counts is → Sample further js → cell_of l (is ++ js) ≡ cell_of o is
    unfolding cell_of exact
    same_cell s t =
        fun_ext (λ a.
        rw (scale_append o.counts further, value_still (coordinate points a) (coordinate o.points a) (still a) s t)
        (nearest_factor positive.0 positive.1 _))

    same_cells : (c : Cell) → Memᴰ c (cells l) ↔ Memᴰ c (cells o)
    same_cells c = (
      λ m. let s = (cells_are l c).0 m in
          let w = split o.counts s.is_sample in
          (cells_are o c).1
          (record { sample = w.0; is_sample = w.3; is_its_cell = s.is_its_cell ∙ ap (cell_of l) w.2 ∙ same_cell w.3 w.4 }),
      λ m. let s = (cells_are o c).0 m in
          (cells_are l c).1
          (record {
            sample = s.sample ++ map (λ _. 0) further;
            is_sample = join s.is_sample (at_0 further);
            is_its_cell = s.is_its_cell ∙ sym (same_cell s.is_sample (at_0 further));
          }),
    )

  in_disguise : SameCells l o
  in_disguise = record {
    cells_same = λ S e. same_cells ((check_accepted S l).0 e);
    grids_same = λ S grid e f.
        let same = same_cells ((draw_accepted S l (length grid)).0 e).0 in
        sym (drawn_in_any_order (drawing_of S l) grid e (cells o) (λ c. ((same c).1, (same c).0))) ∙
        drawn_in_any_order (drawing_of S o) grid f (cells o) (λ c. (λ m. m, λ m. m));
  }

pub claim : Claim
unfolding pointCount
claim = record {
  any_object = in_disguise;
  patch_as_solid = λ n m l points sixteen mark choice. in_disguise _ 32 (l ∷ []) points;
  curve_as_solid = λ n m l points four mark choice. in_disguise _ 32 (m ∷ l ∷ []) points;
}
