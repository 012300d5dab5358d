-- The machine's volume follows the values, from slice to slice, and its first differences along v follow theirs. A slice is a
-- surface that follows the values of the slice.
use mathlib.Core.Path.{◌≡◌, sym, ◌∙◌, ap, fun_ext}
use Prim.Native.Nat.{ℕ, suc, ◌≤◌, ◌<◌, zero-le}
use lib.Dec.{lit<}
use lib.IntN.{ℤ}
use Rattle.cubic.specs.Blend.{samples}
use Rattle.cubic.specs.Differences.{delta, differences_at, IsBicubic, IsTricubic}
use Rattle.cubic.proofs.Orders.{same_orders, every_order}
use Rattle.cubic.proofs.Rows.{row_delta}
use Rattle.cubic.proofs.Across.{delta_same, delta_less, less_cubic, later_cubic, delta_cubic}
use Rattle.surface.specs.Surface.{surface_of, start_across, along_u, Bounded}
use Rattle.surface.specs.Volume.{volume_of, start_volume, slice_of, next_volume, volume_at, along_v, VolumeRoom, VolumeBounded}
use Rattle.surface.specs.Volume.{slice_at, v_steps}
use Rattle.surface.proofs.Follows.{row_of_lem, start_of, surface_next, surface_at_lem, u_steps_of, surface_room}

-- The slice at k is the surface of the values there.
pub slice_of_lem : (Q : (i j k : ℕ) → ℤ) (k : ℕ) → slice_of (volume_of Q k) ≡ surface_of (slice_at Q k) 0
unfolding volume_of surface_of
slice_of_lem Q k = same_orders (λ d. row_of_lem (λ b c. delta d (λ a. Q a b c) 0) k)

-- The start along v from four surfaces is slice 0 of their volume.
pub volume_start_of : (l : ℤ) (P0 P1 P2 P3 : (i j : ℕ) → ℤ) →
    start_volume l (surface_of P0 0) (surface_of P1 0) (surface_of P2 0) (surface_of P3 0) ≡
    volume_of (λ i j. samples l (P0 i j) (P1 i j) (P2 i j) (P3 i j)) 0
unfolding volume_of surface_of
volume_start_of l P0 P1 P2 P3 = same_orders across
  where
    at : (P : (i j : ℕ) → ℤ) (d b : ℕ) → ℤ
    at P d b = delta d (λ a. P a b) 0

    across : (d : ℕ) →
        start_across l
        (differences_at (at P0 d) 0) (differences_at (at P1 d) 0) (differences_at (at P2 d) 0) (differences_at (at P3 d) 0) ≡
        surface_of (λ b c. delta d (λ a. samples l (P0 a b) (P1 a b) (P2 a b) (P3 a b) c) 0) 0
    across d =
        start_of l (at P0 d) (at P1 d) (at P2 d) (at P3 d) ∙
        ap (λ P. surface_of P 0)
        (fun_ext (λ b. fun_ext (λ c.
        sym (row_delta l (λ a. P0 a b) (λ a. P1 a b) (λ a. P2 a b) (λ a. P3 a b) d 0 c))))

module _ {Q : (i j k : ℕ) → ℤ} (t : IsTricubic Q) where
  -- The differences of order d along t, at t = 0, are bicubic over u and v.
  across_bicubic : (d : ℕ) → IsBicubic (λ b c. delta d (λ a. Q a b c) 0)
  across_bicubic d = record {
    along_t = λ c. delta_cubic {P = λ a b. Q a b c} (λ a. t.along_u a c) d 0;
    along_u = λ b. delta_cubic {P = λ a c. Q a b c} (λ a. t.along_v a b) d 0;
  }

  pub volume_next : (k : ℕ) → next_volume (volume_of Q k) ≡ volume_of Q (suc k)
  unfolding volume_of
  volume_next k = same_orders (λ d. surface_next (across_bicubic d) k)

  -- Each slice is bicubic.
  pub slice_bicubic : (k : ℕ) → IsBicubic (slice_at Q k)
  slice_bicubic k = record { along_t = λ j. t.along_t j k; along_u = λ i. t.along_u i k }

  -- The first differences along v, which are tricubic.
  pub v_steps_of : (k : ℕ) → along_v (volume_of Q k) ≡ volume_of (v_steps Q) k
  unfolding volume_of
  v_steps_of k = same_orders steps
    where
      steps : (d : ℕ) →
          along_u (surface_of (λ b c. delta d (λ a. Q a b c) 0) k) ≡ surface_of (λ b c. delta d (λ a. v_steps Q a b c) 0) k
      steps d =
          u_steps_of (across_bicubic d) k ∙
          ap (λ P. surface_of P k)
          (fun_ext (λ b. fun_ext (λ c. sym (delta_less d (λ a. Q a b (suc c)) (λ a. Q a b c) 0))))

  pub v_steps_tricubic : IsTricubic (v_steps Q)
  v_steps_tricubic = record {
    along_t = λ j k. less_cubic (t.along_t j (suc k)) (t.along_t j k);
    along_u = λ i k. less_cubic (t.along_u i (suc k)) (t.along_u i k);
    along_v = λ i j. less_cubic (later_cubic (t.along_v i j)) (t.along_v i j);
  }

  -- After k slices the machine is at slice k, with the surface there and that of the first differences along v.
  pub volume_at_lem : (k : ℕ) → volume_at (volume_of Q 0) k ≡ volume_of Q k
  unfolding volume_at volume_of
  volume_at_lem k = same_orders (λ d. surface_at_lem (across_bicubic d) k)

  pub slice_at_lem : (k : ℕ) → slice_of (volume_at (volume_of Q 0) k) ≡ surface_of (slice_at Q k) 0
  slice_at_lem k = ap slice_of (volume_at_lem k) ∙ slice_of_lem Q k

  pub steps_at : (k : ℕ) → slice_of (along_v (volume_at (volume_of Q 0) k)) ≡ surface_of (slice_at (v_steps Q) k) 0
  steps_at k = ap (λ v. slice_of (along_v v)) (volume_at_lem k) ∙ ap slice_of (v_steps_of k) ∙ slice_of_lem (v_steps Q) k

module _ {Q : (i j k : ℕ) → ℤ} {n m l : ℕ} (r : VolumeBounded n m l Q) where
  -- There is room for the next slice.
  pub volume_room : {k : ℕ} → k ≤ l → VolumeRoom (volume_of Q k)
  unfolding volume_of
  volume_room {k} hk =
      every_order (λ d. surface_of (λ b c. delta d (λ a. Q a b c) 0) k) (λ d hd. surface_room (across d hd) hk)
    where
      across : (d : ℕ) → d < 4 → Bounded m l (λ b c. delta d (λ a. Q a b c) 0)
      across d hd = record { within = λ k q i j hk hq hi hj. r.within d k q 0 i j hd hk hq zero-le hi hj }

  -- The values of a slice, and their first differences along v, are bounded.
  pub slice_bounded : {k : ℕ} → k ≤ l → Bounded n m (slice_at Q k)
  unfolding delta
  slice_bounded {k} hk =
      record { within = λ d q i j hd hq hi hj. r.within d q 0 i j k hd hq (lit< tt) hi hj hk }

  pub v_steps_bounded : {k : ℕ} → k ≤ l → Bounded n m (slice_at (v_steps Q) k)
  unfolding delta
  v_steps_bounded {k} hk = record {
    within = λ d q i j hd hq hi hj.
        rw (
          delta_same q (λ b. delta_less d (λ a. Q a b (suc k)) (λ a. Q a b k) i) j,
          delta_less q (λ b. delta d (λ a. Q a b (suc k)) i) (λ b. delta d (λ a. Q a b k) i) j,
        )
        (r.within d q 1 i j k hd hq (lit< tt) hi hj hk);
  }
