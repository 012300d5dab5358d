-- A solid along one axis: within the limits the machine may start and go on, and its values are twice the exact ones.
use mathlib.Core.Path.{◌≡◌, refl}
use mathlib.Core.List.{List, [], ◌∷◌}
use Prim.Native.Nat.{ℕ, ◌+◌, ◌*◌, ◌≤◌, ◌<◌, ◌^◌}
use native.Mathlib.Nat.{le_trans, mul-le-mul}
use native.Mathlib.Omega.{arith}
use lib.Dec.{lit≤, lit<}
use lib.IntN.{ℤ, pos}
use lib.ListN.{length}
use Rattle.integers.proofs.Magnitude.{within_pos}
use Rattle.bezier.specs.Exact.{scale}
use Rattle.neighbours.specs.Steps.{too_long}
use Rattle.cube.specs.Cube.{Axis}
use Rattle.drawing.specs.Object.{offset, coordinate, scale_of, exact}
use Rattle.drawing.specs.Refusals.{Drawable}
use Rattle.cubic.specs.Blend.{twice}
use Rattle.cubic.specs.Differences.{delta, differences_at, IsTricubic}
use Rattle.cubic.specs.Room.{Room}
use Rattle.cubic.proofs.Exact.{volume_tricubic, volume_doubled}
use Rattle.cubic.proofs.Fits.{read}
use Rattle.cubic.proofs.Levels.{volume_start, volume_within, face_room}
use Rattle.surface.specs.Surface.{surface_of, StartsAcross}
use Rattle.surface.specs.Volume.{volume_of, StartsVolume, VolumeSearchable, VolumeBounded}
use Rattle.surface.proofs.Follows.{starts_across}
use Rattle.surface.proofs.Long.{volume_finds, volume_searchable}
use Rattle.scan.proofs.Natural.{natural_held, cube_grows}
use Rattle.rows.specs.Face.{doubled_face}
use Rattle.rows.proofs.Face.{face_bytes}
use Rattle.solid.specs.declared.Solid.{Solid}
use Rattle.solid.specs.Solid.{solid_of}
use Rattle.solid.specs.Machine.{InLimits, numbered, face_along, doubled_along, long_along}

-- What can be drawn is within the limits.
pub drawable_in_limits : {S : ℕ} (s : Solid) → length s.points ≡ 192 → Drawable S (solid_of s) →
    InLimits s.points s.n s.m s.l
drawable_in_limits s all_points d = record {
  n_least = d.count_least 0 (lit< tt);
  n_most = d.count_most 0 (lit< tt);
  m_least = d.count_least 1 (lit< tt);
  m_most = d.count_most 1 (lit< tt);
  l_least = d.count_least 2 (lit< tt);
  l_most = d.count_most 2 (lit< tt);
  all_points = all_points;
  coordinates = λ b h. omega (arith, d.coordinate_below b h, d.side_most);
}

-- The scale is n × n × n × m × m × m × l × l × l.
pub scale_is : (n m l : ℕ) → scale (n ∷ m ∷ l ∷ []) ≡ n * n * n * (m * m * m) * (l * l * l)
unfolding scale
scale_is n m l = omega arith

pub scale_small : {n m l : ℕ} → n ≤ 32 → m ≤ 32 → l ≤ 32 → scale (n ∷ m ∷ l ∷ []) ≤ 2 ^ 60
scale_small {n} {m} {l} hn hm hl =
    rw (scale_is n m l) (le_trans (mul-le-mul (mul-le-mul (cube_grows hn) (cube_grows hm)) (cube_grows hl)) (lit≤ tt))

-- The columns of a face are twelve bytes apart, and the points of a column forty-eight.
pub face_is : (points : List ℕ) (n m a k : ℕ) {at : ℕ} → at ≡ 3 * k + a →
    doubled_face points n m 48 12 at ≡ face_along points n m a k
face_is points n m a k e = face_bytes points n m 16 4 a k refl refl e

pub along_tricubic : (points : List ℕ) (n m l a : ℕ) → IsTricubic (doubled_along points n m l a)
along_tricubic points n m l a = volume_tricubic n m l (twice (numbered points a))

module _ {points : List ℕ} {n m l : ℕ} (q : InLimits points n m l) where
  -- What is read back of an answer that is the scale.
  pub scale_read : {r : ℤ} → r ≡ pos (scale (n ∷ m ∷ l ∷ [])) → read r ≡ pos (scale (n ∷ m ∷ l ∷ []))
  scale_read e = (natural_held e (scale_small q.n_most q.m_most q.l_most) (lit< tt)).same

  module _ {a : ℕ} (h : a < 3) where
    -- Each coordinate is below 64.
    points_below : (p : ℕ) → p < 64 → numbered points a p ≤ 63
    points_below p hp = q.coordinates (3 * p + a) (rw q.all_points (omega arith))

    -- The faces start along v.
    pub faces_start :
        StartsVolume (pos l)
        (surface_of (face_along points n m a 0) 0) (surface_of (face_along points n m a 1) 0)
        (surface_of (face_along points n m a 2) 0) (surface_of (face_along points n m a 3) 0)
    unfolding surface_of
    faces_start = record {
      value = across 0 (lit< tt);
      d1 = across 1 (lit< tt);
      d2 = across 2 (lit< tt);
      d3 = across 3 (lit< tt);
    }
      where
        at : (k p : ℕ) → ℕ → ℤ
        at k p b = delta k (λ i. face_along points n m a p i b) 0

        across : (k : ℕ) → k < 4 →
            StartsAcross (pos l)
            (differences_at (at k 0) 0) (differences_at (at k 1) 0) (differences_at (at k 2) 0) (differences_at (at k 3) 0)
        across k hk =
            starts_across (at k 0) (at k 1) (at k 2) (at k 3)
            (λ d hd. volume_start (numbered points a) q.n_most q.m_most points_below q.l_most k d hk hd)

    pub along_bounded : VolumeBounded n m l (doubled_along points n m l a)
    along_bounded =
        record { within = volume_within (numbered points a) q.n_most q.m_most points_below q.l_most }

    -- The step test may be asked.
    pub searchable : VolumeSearchable (volume_of (doubled_along points n m l a) 0) (pos (scale (n ∷ m ∷ l ∷ []))) n m l
    searchable =
        volume_searchable (along_tricubic points n m l a) along_bounded
        (within_pos (scale_small q.n_most q.m_most q.l_most))
        q.n_least q.m_least (le_trans q.n_most (lit≤ tt)) (le_trans q.m_most (lit≤ tt))

module _ (s : Solid) (a : Axis) where
  -- The machine follows twice the exact values.
  pub doubles : (i j k : ℕ) → i ≤ s.n → j ≤ s.m → k ≤ s.l →
      doubled_along s.points s.n s.m s.l (offset a) i j k ≡ pos (2 * exact (solid_of s) a (i ∷ j ∷ k ∷ []))
  unfolding exact coordinate
  doubles i j k hi hj hk = volume_doubled (numbered s.points (offset a)) hi hj hk

  -- The search finds a long step exactly where there is one.
  pub search_finds : long_along s.points s.n s.m s.l (offset a) ≡
      too_long (scale_of (solid_of s)) (s.n ∷ s.m ∷ s.l ∷ []) (exact (solid_of s) a)
  search_finds =
      volume_finds (along_tricubic s.points s.n s.m s.l (offset a)) (scale_of (solid_of s)) s.n s.m s.l
      (exact (solid_of s) a) doubles
