-- Points by their numbers: what a list of them holds; that an involution gives back the list the second time, and that a test
-- of all coordinates finds the same.
use mathlib.Core.Path.{◌≡◌, refl, sym, ◌∙◌, ap, subst}
use mathlib.Core.Logic.{⊎_elim}
use mathlib.Core.Bool.{Bool, false, not, ◌&&◌}
use mathlib.Core.List.{List, [], ◌∷◌}
use Prim.Native.Nat.{ℕ, zero, suc, ◌+◌, ◌*◌, ◌≤◌, ◌<◌}
use native.Mathlib.Omega.{arith}
use lib.Dec.{T, not_T, ltb, eqb}
use lib.ListN.{length, get_or, set, length-set}
use lib.Seq.{get_or-set_same, get_or-set_other, ext_get_or}
use Rattle.decide.specs.Some.{some_below, some_of}
use Rattle.decide.proofs.Truth.{both, decided, equal, less, not_less, false_iff, same_test}
use Rattle.decide.proofs.Some.{some_below_lem, some_of_lem}
use Rattle.cube.specs.Cube.{Axis, x_axis, y_axis, z_axis}
use Rattle.drawing.specs.Object.{offset, coordinate}
use Rattle.drawing.proofs.Listed.{offset_below}
use Rattle.flip.specs.Flip.{no_point, points_at}

-- Every byte is a coordinate of a point.
by_point : (q : ℕ) → (k : ℕ) × (a : Axis) × (q ≡ 3 * k + offset a)
unfolding offset
by_point zero = (0, x_axis, refl)
by_point (suc zero) = (0, y_axis, refl)
by_point (suc (suc zero)) = (0, z_axis, refl)
by_point (suc (suc (suc q))) = let w = by_point q in (suc w.0, w.1, omega (arith, w.2))

-- Lists of so many points are the same where their points are.
pub same_points : (count : ℕ) (l m : List ℕ) → length l ≡ 3 * count → length m ≡ 3 * count →
    ((k : ℕ) → k < count → (a : Axis) → coordinate l a k ≡ coordinate m a k) → l ≡ m
unfolding coordinate
same_points count l m hl hm same =
    ext_get_or 0 l m (hl ∙ sym hm)
    (λ q h. let w = by_point q in
    subst (λ i. get_or l i 0 ≡ get_or m i 0) (sym w.2) (same w.0 (omega (arith, w.2)) w.1))

-- A point written in place k, x y z.
abbrev pub put : (to : List ℕ) (k : ℕ) (v : Axis → ℕ) → List ℕ
put to k v = set (set (set to (3 * k) (v x_axis)) (3 * k + 1) (v y_axis)) (3 * k + 2) (v z_axis)

module _ (to : List ℕ) (k : ℕ) (v : Axis → ℕ) where
  abbrev with_x : List ℕ
  with_x = set to (3 * k) (v x_axis)

  abbrev with_y : List ℕ
  with_y = set with_x (3 * k + 1) (v y_axis)

  -- Another byte than its three keeps what it held.
  kept : (q : ℕ) → ¬ (q ≡ 3 * k) → ¬ (q ≡ 3 * k + 1) → ¬ (q ≡ 3 * k + 2) → get_or (put to k v) q 0 ≡ get_or to q 0
  kept q nx ny nz =
      get_or-set_other with_y (3 * k + 2) q (v z_axis) 0 nz ∙
      get_or-set_other with_x (3 * k + 1) q (v y_axis) 0 ny ∙
      get_or-set_other to (3 * k) q (v x_axis) 0 nx

  pub put_before : (j : ℕ) → j < k → (a : Axis) → coordinate (put to k v) a j ≡ coordinate to a j
  unfolding coordinate
  put_before j l a =
      let o = offset_below a in
      kept (3 * j + offset a) (λ e. omega (arith, e, o)) (λ e. omega (arith, e, o)) (λ e. omega (arith, e, o))

  pub put_here : 3 * k + 3 ≤ length to → (a : Axis) → coordinate (put to k v) a k ≡ v a
  unfolding coordinate offset
  put_here h x_axis =
      let z : 3 * k + 0 ≡ 3 * k = omega arith in
      ap (λ q. get_or (put to k v) q 0) z ∙
      get_or-set_other with_y (3 * k + 2) (3 * k) (v z_axis) 0 (λ e. omega (arith, e)) ∙
      get_or-set_other with_x (3 * k + 1) (3 * k) (v y_axis) 0 (λ e. omega (arith, e)) ∙
      get_or-set_same to (3 * k) (v x_axis) 0 (omega arith)
  put_here h y_axis =
      get_or-set_other with_y (3 * k + 2) (3 * k + 1) (v z_axis) 0 (λ e. omega (arith, e)) ∙
      get_or-set_same with_x (3 * k + 1) (v y_axis) 0 (rw length-set (omega arith))
  put_here h z_axis = get_or-set_same with_y (3 * k + 2) (v z_axis) 0 (simp length-set (omega arith))

-- The coordinates as they are read, x first.
abbrev pub read : (from : List ℕ) (k : ℕ) → Axis → ℕ
read from k x_axis = get_or from (3 * k) 0
read from k y_axis = get_or from (3 * k + 1) 0
read from k z_axis = get_or from (3 * k + 2) 0

pub read_point : (from : List ℕ) (k : ℕ) (a : Axis) → read from k a ≡ coordinate from a k
unfolding coordinate offset
read_point from k x_axis = let z : 3 * k ≡ 3 * k + 0 = omega arith in ap (λ q. get_or from q 0) z
read_point from k y_axis = refl
read_point from k z_axis = refl

module _ (points : List ℕ) where
  -- Three coordinates a number.
  pub length_points_at : (numbers : List ℕ) → length (points_at points numbers) ≡ 3 * length numbers
  unfolding points_at
  length_points_at [] = refl
  length_points_at (k ∷ ks) = rw (length_points_at ks) (omega arith)

  front : (n : ℕ) (ns : List ℕ) (a : Axis) → coordinate (points_at points (n ∷ ns)) a 0 ≡ coordinate points a n
  unfolding points_at coordinate offset
  front n ns x_axis = refl
  front n ns y_axis = refl
  front n ns z_axis = refl

  behind : (n : ℕ) (ns : List ℕ) (k : ℕ) (a : Axis) →
      coordinate (points_at points (n ∷ ns)) a (suc k) ≡ coordinate (points_at points ns) a k
  unfolding points_at coordinate
  behind n ns k a = let e : 3 * suc k + offset a ≡ suc (suc (suc (3 * k + offset a))) = omega arith in rw e

  -- Point k is the one with number k of the numbers.
  pub point_at : (numbers : List ℕ) (k : ℕ) → k < length numbers → (a : Axis) →
      coordinate (points_at points numbers) a k ≡ coordinate points a (get_or numbers k 0)
  point_at [] k h a = absurd (omega arith)
  point_at (n ∷ ns) zero h a = front n ns a
  point_at (n ∷ ns) (suc k) h a = behind n ns k a ∙ point_at ns k (omega arith) a

-- Where no number is without a point, each has its three coordinates.
pub has_point : (points numbers : List ℕ) → some_of (no_point points) numbers ≡ false → (k : ℕ) → k < length numbers →
    3 * get_or numbers k 0 + 3 ≤ length points
unfolding no_point
has_point points numbers none k l =
    not_less (length points) (3 * get_or numbers k 0 + 3)
    (λ t. (false_iff _).0 none ((some_of_lem (no_point points) numbers).1 (k, l, t)))

-- The numbers are an involution: where k stands in the place of n, n stands in the place of k.
pub record Involution (numbers : List ℕ) : Type 0 where
  pub within : (k : ℕ) → k < length numbers → get_or numbers k 0 < length numbers
  pub twice : (k : ℕ) → k < length numbers → get_or numbers (get_or numbers k 0) 0 ≡ k

-- In the place of k stands a number in whose place k does not stand.
unfoldable pub unpaired : (numbers : List ℕ) (k : ℕ) → Bool
unpaired numbers k = not (ltb (get_or numbers k 0) (length numbers) && eqb (get_or numbers (get_or numbers k 0) 0) k)

pub involution : (numbers : List ℕ) → some_below (length numbers) (unpaired numbers) ≡ false → Involution numbers
unfolding unpaired
involution numbers none = record { within = λ k h. (partner k h).0; twice = λ k h. (partner k h).1 }
  where
    partner : (k : ℕ) → k < length numbers → (get_or numbers k 0 < length numbers) × (get_or numbers (get_or numbers k 0) 0 ≡ k)
    partner k h =
        let in-range : Bool = ltb (get_or numbers k 0) (length numbers) in
        let back : Bool = eqb (get_or numbers (get_or numbers k 0) 0) k in
        ⊎_elim
        (λ t. let w = (both in-range back).0 t in ((less _ _).0 w.0, (equal _ _).0 w.1))
        (λ f. absurd ((false_iff _).0 none ((some_below_lem (unpaired numbers) (length numbers)).1 (k, h, not_T (in-range && back) f))))
        (decided (in-range && back))

module _ (points numbers : List ℕ) (pairs : Involution numbers) (h : length points ≡ 3 * length numbers) where
  -- The second time gives back the points.
  pub points_twice : points_at (points_at points numbers) numbers ≡ points
  points_twice =
      same_points (length numbers) (points_at (points_at points numbers) numbers) points
      (length_points_at (points_at points numbers) numbers) h
      (λ k l a. point_at (points_at points numbers) numbers k l a ∙
      point_at points numbers (get_or numbers k 0) (pairs.within k l) a ∙
      ap (coordinate points a) (pairs.twice k l))

  -- What passes a test among the points with the numbers passes it among the points.
  seen : (p : ℕ → Bool) → T (some_of p (points_at points numbers)) → T (some_of p points)
  unfolding coordinate
  seen p t =
      let w = (some_of_lem p (points_at points numbers)).0 t in
      let b = by_point w.0 in
      let l : b.0 < length numbers = omega (arith, w.1, b.2, length_points_at points numbers) in
      (some_of_lem p points).1 (
        3 * get_or numbers b.0 0 + offset b.1,
        omega (arith, h, pairs.within b.0 l, offset_below b.1),
        subst (λ c. T (p c)) (ap (λ i. get_or (points_at points numbers) i 0) b.2 ∙ point_at points numbers b.0 l b.1) w.2,
      )

-- So a test finds one among the points exactly where it finds one among those with the numbers.
pub same_found : (points numbers : List ℕ) → Involution numbers → length points ≡ 3 * length numbers → (p : ℕ → Bool) →
    some_of p (points_at points numbers) ≡ some_of p points
same_found points numbers pairs h p =
    same_test (some_of p (points_at points numbers)) (some_of p points) (seen points numbers pairs h p)
    (λ t. seen (points_at points numbers) numbers pairs (length_points_at points numbers) p
    (subst (λ l. T (some_of p l)) (sym (points_twice points numbers pairs h)) t))
