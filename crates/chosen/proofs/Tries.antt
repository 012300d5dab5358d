-- One count tried on one axis: within the machine's limits, and what the axis says of it. Then the axes asked in turn.
use mathlib.Core.Path.{◌≡◌, refl, sym, ◌∙◌}
use mathlib.Core.Logic.{⊎_elim}
use mathlib.Core.Bool.{true, false, true≢false}
use mathlib.Core.List.{List, [], ◌∷◌}
use Prim.Native.Nat.{ℕ, zero, suc, ◌+◌, ◌≤◌, ◌<◌}
use native.Mathlib.Omega.{arith}
use lib.Dec.{ltb}
use lib.ListN.{get_or}
use Rattle.decide.proofs.Truth.{decided, less, not_less, false_of, true_of}
use Rattle.cube.specs.Cube.{Axis, x_axis, y_axis, z_axis}
use Rattle.drawing.specs.Object.{offset}
use Rattle.scan.specs.Column.{Below64}
use Rattle.scan.proofs.Axes.{offset_small, axis_numbered}
use Rattle.curve.specs.declared.Curve.{Curve}
use Rattle.curve.specs.Machine.{InLimits, long_along}
use Rattle.curve.proofs.Search.{found, nowhere}
use Rattle.chosen.specs.Chosen.{refuses_count, chosen}
use Rattle.chosen.specs.Search.{InCube, with_steps, alone_of, enough, Climbed, next_axis, axis_before, Agreed}
use Rattle.chosen.proofs.Least.{by_curve, enough_accepted, smallest_is, enough_189}

-- Coordinates of points on x.
on_x : (g : ℕ) (others : List ℕ) → g ≤ 63 → Below64 others → Below64 (g ∷ 0 ∷ 0 ∷ others)
on_x g others h rest zero l = h
on_x g others h rest (suc zero) l = omega arith
on_x g others h rest (suc (suc zero)) l = omega arith
on_x g others h rest (suc (suc (suc b))) l = rest b (omega arith)

module _ (c : Curve) where
  -- A count up to what is always enough, on one axis alone.
  pub alone_limits : InCube c → (a : Axis) → (n : ℕ) → 1 ≤ n → n ≤ enough c.points → InLimits (with_steps (alone_of c a) n)
  alone_limits i a n l m =
      let twelve = i.twelve in
      let small = offset_small a in
      record {
        count_least = l;
        count_most = omega (arith, m, enough_189 c.points i.coordinates);
        twelve = refl;
        coordinates =
            let g : ℕ → ℕ = λ k. get_or c.points (k + offset a) 0 in
            on_x (get_or c.points (offset a) 0) (g 3 ∷ 0 ∷ 0 ∷ g 6 ∷ 0 ∷ 0 ∷ g 9 ∷ 0 ∷ 0 ∷ [])
            (i.coordinates (offset a) (omega arith))
            (on_x (g 3) (g 6 ∷ 0 ∷ 0 ∷ g 9 ∷ 0 ∷ 0 ∷ []) (i.coordinates (3 + offset a) (omega arith))
            (on_x (g 6) (g 9 ∷ 0 ∷ 0 ∷ []) (i.coordinates (6 + offset a) (omega arith))
            (on_x (g 9) [] (i.coordinates (9 + offset a) (omega arith)) (λ b k. absurd (omega arith)))));
      }

  module _ (n : ℕ) where
    -- An axis alone says what it says among the others.
    pub alone_says : (a : Axis) → long_along (with_steps (alone_of c a) n) 0 ≡ long_along (with_steps c n) (offset a)
    alone_says a = refl

    -- An axis that refuses the count is enough.
    pub refuses : (a : Axis) → long_along (with_steps c n) (offset a) ≡ true → refuses_count c.points n ≡ true
    refuses a e = by_curve c.points n c.mark c.choice ∙ found (with_steps c n) (offset a) (offset_small a) e

    -- A count that is accepted is accepted by each axis.
    each_accepts : refuses_count c.points n ≡ false → (a : Axis) → long_along (with_steps c n) (offset a) ≡ false
    each_accepts e a = false_of _ (λ t. true≢false (sym (refuses a (true_of _ t)) ∙ e))

    -- And one that each axis accepts is accepted.
    all_accept : ((a : Axis) → long_along (with_steps c n) (offset a) ≡ false) → refuses_count c.points n ≡ false
    all_accept each =
        by_curve c.points n c.mark c.choice ∙
        nowhere (with_steps c n) (λ k h. let a = axis_numbered k h in rw (← a.1) (each a.0))

  pub accepts_enough : (a : Axis) → (n : ℕ) → n ≡ enough c.points → long_along (with_steps c n) (offset a) ≡ false
  accepts_enough a n e = each_accepts n (rw e (enough_accepted c.points)) a

before_next : (a : Axis) → axis_before (next_axis a) ≡ a
before_next x_axis = refl
before_next y_axis = refl
before_next z_axis = refl

-- What holds of an axis, of the one before it and of the one before that holds of all three.
by_axis : (P : Axis → Type 0) → P x_axis → P y_axis → P z_axis → (b : Axis) → P b
by_axis P x y z x_axis = x
by_axis P x y z y_axis = y
by_axis P x y z z_axis = z

all_around : (a : Axis) (P : Axis → Type 0) → P a → P (axis_before a) → P (axis_before (axis_before a)) → (b : Axis) → P b
all_around x_axis P x z y = by_axis P x y z
all_around y_axis P y x z = by_axis P x y z
all_around z_axis P z y x = by_axis P x y z

-- Every count from 1 on below n is refused.
abbrev pub RefusedBelow : Curve → ℕ → Type 0
RefusedBelow c n = (m : ℕ) → 1 ≤ m → m < n → refuses_count c.points m ≡ true

module _ (c : Curve) where
  -- So they are below what an axis climbs to from there.
  pub climbed_on : {a : Axis} {n to : ℕ} → RefusedBelow c n → Climbed c a n to → RefusedBelow c to
  climbed_on {n = n} below up m l h =
      ⊎_elim (λ t. below m l ((less m n).0 t)) (λ f. up.refused m (not_less m n f) h) (decided (ltb m n))

  -- None has been asked.
  pub none_asked : (n : ℕ) (a : Axis) → Agreed c n a 0
  none_asked n a = record { last = λ l. absurd (omega arith); last_but_one = λ l. absurd (omega arith) }

  module _ {a : Axis} {n m so_many : ℕ} (agreed : Agreed c n a so_many) (up : Climbed c a n m) where
    -- One more agrees where it stays,
    pub one_more : m ≡ n → Agreed c m (next_axis a) (so_many + 1)
    one_more e = record {
      last = λ l. rw (before_next a) up.accepts;
      last_but_one = λ l. rw (before_next a, e) (agreed.last (omega arith));
    }

    -- and it alone where it has climbed.
    pub it_alone : Agreed c m (next_axis a) 1
    it_alone = record { last = λ l. rw (before_next a) up.accepts; last_but_one = λ l. absurd (omega arith) }

    -- Two and the one that stays are all three, and the count is the smallest.
    pub all_agree : 1 ≤ n → RefusedBelow c n → 2 ≤ so_many → m ≡ n → m ≡ chosen c.points
    all_agree l below two e =
        smallest_is c.points m (omega (arith, l, up.least))
        (all_accept c m (all_around a (λ b. long_along (with_steps c m) (offset b) ≡ false) up.accepts
        (rw e (agreed.last (omega arith))) (rw e (agreed.last_but_one two))))
        (climbed_on below up)
