-- Document 02, A.13, with A.4: "the accuracy argument should be made for any number of parameters, and curve, patch and volume be
-- instances". One claim, and what it says of each kind. Accepted: none of 11, 13, 14 and 15 applies, as of every object that is
-- drawn or listed.
use Rattle.std.specs.Prelude.{◌≡◌, ◌↔◌, Bool, cond, List, [], ◌∷◌, ℕ, suc, ◌+◌, ◌*◌, ◌≤◌, ◌<◌, T}
use Rattle.bezier.specs.Exact.{blend, Corner}
use Rattle.decide.specs.Refusal.{accepted}
use Rattle.rounding.specs.Nearest.{NextTo}
use Rattle.neighbours.specs.Steps.{far_apart}
use Rattle.cube.specs.Cube.{Axis, Inside}
use Rattle.drawing.specs.declared.Choice.{Choice}
use Rattle.drawing.specs.Object.{Object, curve, patch, solid, coordinate, scale_of, exact, cell_of}
use Rattle.drawing.specs.Refusals.{steps_too_long, sample_count, check_verdict}
use Rattle.claims.specs.Demand3.{SampleNear, Accurate}

-- A sample's cell lies in the cube, within half a cell of the sample on every axis.
abbrev pub Placed : (S : ℕ) (o : Object) (sample : List ℕ) → Type 0
Placed S o sample = Inside S (cell_of o sample) × SampleNear o sample (cell_of o sample)

-- The cells of two samples differ by at most one on each axis. A slit is two neighbours whose cells do not, so that a cell lies
-- between them.
abbrev pub NoSlit : (o : Object) (sample next : List ℕ) → Type 0
NoSlit o sample next = (a : Axis) → NextTo (cell_of o sample a) (cell_of o next a)

-- A curve: samples i from 0 to n, and neighbours i and i + 1.
pub record OfCurve (S n : ℕ) (o : Object) : Type 0 where
  pub samples : (i : ℕ) → i ≤ n → Placed S o (i ∷ [])
  pub along_t : (i : ℕ) → i < n → NoSlit o (i ∷ []) (suc i ∷ [])

-- A patch: samples (i, j), and neighbours along t, in every row, and along u, at every index of t. A.4: "in an accepted patch the
-- cells of any two neighbouring samples, along t or along u and in every row, differ by at most one on each axis".
pub record OfPatch (S n m : ℕ) (o : Object) : Type 0 where
  pub samples : (i j : ℕ) → i ≤ n → j ≤ m → Placed S o (i ∷ j ∷ [])
  pub along_t : (i j : ℕ) → i < n → j ≤ m → NoSlit o (i ∷ j ∷ []) (suc i ∷ j ∷ [])
  pub along_u : (i j : ℕ) → i ≤ n → j < m → NoSlit o (i ∷ j ∷ []) (i ∷ suc j ∷ [])

-- A solid: samples (i, j, k), and neighbours along t, along u and along v, each at every index of the other two. At the eight
-- corners, where each index is 0 or its step count, the cell is the control point.
pub record OfSolid (S n m l : ℕ) (o : Object) : Type 0 where
  pub samples : (i j k : ℕ) → i ≤ n → j ≤ m → k ≤ l → Placed S o (i ∷ j ∷ k ∷ [])
  pub along_t : (i j k : ℕ) → i < n → j ≤ m → k ≤ l → NoSlit o (i ∷ j ∷ k ∷ []) (suc i ∷ j ∷ k ∷ [])
  pub along_u : (i j k : ℕ) → i ≤ n → j < m → k ≤ l → NoSlit o (i ∷ j ∷ k ∷ []) (i ∷ suc j ∷ k ∷ [])
  pub along_v : (i j k : ℕ) → i ≤ n → j ≤ m → k < l → NoSlit o (i ∷ j ∷ k ∷ []) (i ∷ j ∷ suc k ∷ [])
  pub corners : (p q r : Bool) (a : Axis) →
      cell_of o (cond p n 0 ∷ cond q m 0 ∷ cond r l 0 ∷ []) a ≡
      coordinate o.points a (16 * cond p 3 0 + 4 * cond q 3 0 + cond r 3 0)

-- B on four control values by their numbers.
abbrev pub blended : (n i : ℕ) (g : ℕ → ℕ) → ℕ
blended n i g = blend n i (g 0) (g 1) (g 2) (g 3)

-- Two samples lie more than one cell apart on an axis.
abbrev pub Far : (o : Object) (a : Axis) (sample next : List ℕ) → Type 0
Far o a sample next = T (far_apart (scale_of o) (exact o a sample) (exact o a next))

-- A long step of a solid on an axis: along t, along u or along v.
pub data SolidLongStep (n m l : ℕ) (o : Object) (a : Axis) : Type 0 where
  along_t : {i j k : ℕ} → i < n → j ≤ m → k ≤ l → Far o a (i ∷ j ∷ k ∷ []) (suc i ∷ j ∷ k ∷ []) → SolidLongStep n m l o a
  along_u : {i j k : ℕ} → i ≤ n → j < m → k ≤ l → Far o a (i ∷ j ∷ k ∷ []) (i ∷ suc j ∷ k ∷ []) → SolidLongStep n m l o a
  along_v : {i j k : ℕ} → i ≤ n → j ≤ m → k < l → Far o a (i ∷ j ∷ k ∷ []) (i ∷ j ∷ suc k ∷ []) → SolidLongStep n m l o a

-- What the definitions say of a solid, accepted or refused: its values are over n³ × m³ × l³; each is B along t of B along u of B
-- along v of the points g(p, q, r), which have number 16 × p + 4 × q + r; it has (n + 1) × (m + 1) × (l + 1) samples; and its steps
-- are too long exactly where on some axis one of them is, along t, along u or along v.
pub record SolidInWords (n m l : ℕ) (o : Object) : Type 0 where
  pub scale_is : scale_of o ≡ n * n * n * (m * m * m) * (l * l * l)
  pub value_is : (i j k : ℕ) (a : Axis) →
      exact o a (i ∷ j ∷ k ∷ []) ≡
      blended n i (λ p. blended m j (λ q. blended l k (λ r. coordinate o.points a (16 * p + 4 * q + r))))
  pub so_many_samples : sample_count o.counts ≡ (n + 1) * (m + 1) * (l + 1)
  pub too_long : T (steps_too_long o) ↔ ((a : Axis) × SolidLongStep n m l o a)

pub record Claim : Type 0 where
  -- An object in any number of parameters; and at its corners the cells are control points.
  pub any_object : (S : ℕ) (o : Object) → check_verdict S o ≡ accepted → Accurate S o
  pub any_corner : (S : ℕ) (o : Object) → check_verdict S o ≡ accepted → {sample : List ℕ} {p : ℕ} →
      Corner o.counts sample p → (a : Axis) → cell_of o sample a ≡ coordinate o.points a p
  -- A curve, a patch and a solid.
  pub of_curve : (S n : ℕ) (points : List ℕ) (mark : ℕ) (choice : Choice) →
      let o : Object = curve n points mark choice in check_verdict S o ≡ accepted → OfCurve S n o
  pub of_patch : (S n m : ℕ) (points : List ℕ) (mark : ℕ) (choice : Choice) →
      let o : Object = patch n m points mark choice in check_verdict S o ≡ accepted → OfPatch S n m o
  pub of_solid : (S n m l : ℕ) (points : List ℕ) (mark : ℕ) (choice : Choice) →
      let o : Object = solid n m l points mark choice in check_verdict S o ≡ accepted → OfSolid S n m l o
  pub solid_in_words : (n m l : ℕ) (points : List ℕ) (mark : ℕ) (choice : Choice) →
      SolidInWords n m l (solid n m l points mark choice)
