-- The machine's surface follows the values, from row to row and from sample to sample, and its first differences along either
-- parameter follow theirs. The values are any that are bicubic: a patch, or a slice of a volume.
use mathlib.Core.Path.{◌≡◌, refl, sym, ◌∙◌, ap, fun_ext}
use Prim.Native.Nat.{ℕ, zero, suc, ◌≤◌, ◌<◌, ◌^◌, zero-le}
use native.Mathlib.Omega.{arith}
use lib.Dec.{lit<}
use lib.IntN.{ℤ, pos, ◌-ℤ◌}
use Rattle.integers.specs.Magnitude.{Within}
use Rattle.integers.proofs.Magnitude.{within_pos}
use Rattle.cubic.specs.Blend.{samples, surface}
use Rattle.cubic.specs.Differences.{delta, differences_at, nexts, steps_of, IsCubic, IsBicubic}
use Rattle.cubic.specs.Room.{Startable, Room}
use Rattle.cubic.proofs.Orders.{same_orders, every_order, across_orders}
use Rattle.cubic.proofs.Next.{same_fields, next_differences, nexts_differences}
use Rattle.cubic.proofs.Rows.{row_delta}
use Rattle.cubic.proofs.Across.{delta_none, delta_same, delta_less, delta_steps, less_cubic, later_cubic, delta_cubic}
use Rattle.cubic.proofs.Bounds.{within_fields}
use Rattle.surface.specs.Surface.{surface_of, start_across, StartsAcross, row_of, next_surface, surface_at, cubic_at, value_at}
use Rattle.surface.specs.Surface.{no_cubic, along_t, along_u, SurfaceRoom, Searchable, Bounded, t_steps, u_steps}

-- A row's value and differences along t.
pub row_of_lem : (P : (i j : ℕ) → ℤ) (j : ℕ) → row_of (surface_of P j) ≡ differences_at (λ a. P a j) 0
unfolding surface_of differences_at delta
row_of_lem P j = refl

-- The start along u from four sequences along t is row 0 of their surface.
pub start_of : (m : ℤ) (f0 f1 f2 f3 : ℕ → ℤ) →
    start_across m (differences_at f0 0) (differences_at f1 0) (differences_at f2 0) (differences_at f3 0) ≡
    surface_of (surface m f0 f1 f2 f3) 0
unfolding surface_of differences_at delta
start_of m f0 f1 f2 f3 = same_orders across
  where
    across : (k : ℕ) →
        differences_at (samples m (delta k f0 0) (delta k f1 0) (delta k f2 0) (delta k f3 0)) 0 ≡
        differences_at (λ b. delta k (λ a. surface m f0 f1 f2 f3 a b) 0) 0
    across k = ap (λ f. differences_at f 0) (fun_ext (λ b. sym (row_delta m f0 f1 f2 f3 k 0 b)))

-- What the start along u asks for, of four sequences along t.
pub starts_across : {m : ℤ} (f0 f1 f2 f3 : ℕ → ℤ) →
    ((k : ℕ) → k < 4 → Startable m (delta k f0 0) (delta k f1 0) (delta k f2 0) (delta k f3 0)) →
    StartsAcross m (differences_at f0 0) (differences_at f1 0) (differences_at f2 0) (differences_at f3 0)
unfolding differences_at delta
starts_across f0 f1 f2 f3 start =
    across_orders (λ k. delta k f0 0) (λ k. delta k f1 0) (λ k. delta k f2 0) (λ k. delta k f3 0) start

-- The cubic 0 follows what is 0.
no_cubic_lem : (j : ℕ) → no_cubic ≡ differences_at (λ b. pos 0) j
unfolding differences_at delta
no_cubic_lem j = refl

-- The first differences of a cubic follow those of its values.
steps_of_lem : {f : ℕ → ℤ} → IsCubic f → (j : ℕ) → steps_of (differences_at f j) ≡ differences_at (λ b. f (suc b) -ℤ f b) j
unfolding differences_at delta
steps_of_lem {f} c j =
    same_fields refl (sym (delta_steps 1 f j)) (sym (delta_steps 2 f j))
    (sym (delta_steps 3 f j ∙ c.fourth j))

module _ {P : (i j : ℕ) → ℤ} (b : IsBicubic P) where
  -- The differences of order k along t, at t = 0, are a cubic along u.
  across_cubic : (k : ℕ) → IsCubic (λ b. delta k (λ a. P a b) 0)
  across_cubic k = delta_cubic {P = P} b.along_u k 0

  pub surface_next : (j : ℕ) → next_surface (surface_of P j) ≡ surface_of P (suc j)
  unfolding surface_of
  surface_next j = same_orders (λ k. next_differences _ j (across_cubic k))

  pub surface_at_lem : (j : ℕ) → surface_at (surface_of P 0) j ≡ surface_of P j
  unfolding surface_at surface_of
  surface_at_lem j = same_orders (λ k. nexts_differences (across_cubic k) j)

  -- And i samples on in row j are the differences of the row at i.
  sample_at : (i j : ℕ) → cubic_at (surface_of P 0) i j ≡ differences_at (λ a. P a j) i
  unfolding cubic_at
  sample_at i j =
      ap (λ s. nexts i (row_of s)) (surface_at_lem j) ∙ ap (nexts i) (row_of_lem P j) ∙ nexts_differences (b.along_t j) i

  pub value_at_lem : (i j : ℕ) → value_at (surface_of P 0) i j ≡ P i j
  unfolding differences_at
  value_at_lem i j = ap (λ c. c.value) (sample_at i j)

  -- The first differences along t, and along u.
  pub t_steps_of : (j : ℕ) → along_t (surface_of P j) ≡ surface_of (t_steps P) j
  unfolding surface_of
  t_steps_of j = same_fields (next 0) (next 1) (next 2) last
    where
      next : (k : ℕ) →
          differences_at (λ b. delta (suc k) (λ a. P a b) 0) j ≡ differences_at (λ b. delta k (λ a. t_steps P a b) 0) j
      next k = ap (λ f. differences_at f j) (fun_ext (λ b. sym (delta_steps k (λ a. P a b) 0)))

      last : no_cubic ≡ differences_at (λ b. delta 3 (λ a. t_steps P a b) 0) j
      last =
          no_cubic_lem j ∙
          ap (λ f. differences_at f j)
          (fun_ext (λ c. sym (delta_steps 3 (λ a. P a c) 0 ∙ (b.along_t c).fourth 0)))

  pub u_steps_of : (j : ℕ) → along_u (surface_of P j) ≡ surface_of (u_steps P) j
  unfolding surface_of
  u_steps_of j = same_orders steps
    where
      steps : (k : ℕ) →
          steps_of (differences_at (λ b. delta k (λ a. P a b) 0) j) ≡ differences_at (λ b. delta k (λ a. u_steps P a b) 0) j
      steps k =
          steps_of_lem (across_cubic k) j ∙
          ap (λ f. differences_at f j) (fun_ext (λ b. sym (delta_less k (λ a. P a (suc b)) (λ a. P a b) 0)))

  -- They are bicubic too.
  pub t_steps_bicubic : IsBicubic (t_steps P)
  t_steps_bicubic = record {
    along_t = λ j. less_cubic (later_cubic (b.along_t j)) (b.along_t j);
    along_u = λ i. less_cubic (b.along_u (suc i)) (b.along_u i);
  }

  pub u_steps_bicubic : IsBicubic (u_steps P)
  u_steps_bicubic = record {
    along_t = λ j. less_cubic (b.along_t (suc j)) (b.along_t j);
    along_u = λ i. less_cubic (later_cubic (b.along_u i)) (b.along_u i);
  }

  -- And where the values are bounded so are they: their differences are those of the next order, of which the fourth is 0.
  module _ {n m : ℕ} (r : Bounded n m P) where
    no_more : {z : ℤ} → z ≡ pos 0 → Within (2 ^ 60) z
    no_more e = rw e (within_pos zero-le)

    pub t_steps_bounded : Bounded n m (t_steps P)
    t_steps_bounded = record {
      within = λ k q i j hk hq hi hj.
          rw (delta_same q (λ b. delta_steps k (λ a. P a b) i) j) (order k q i j hk hq hi hj);
    }
      where
        order : (k q i j : ℕ) → k < 4 → q < 4 → i ≤ n → j ≤ m →
            Within (2 ^ 60) (delta q (λ b. delta (suc k) (λ a. P a b) i) j)
        order zero q i j hk hq hi hj = r.within 1 q i j (lit< tt) hq hi hj
        order (suc zero) q i j hk hq hi hj = r.within 2 q i j (lit< tt) hq hi hj
        order (suc (suc zero)) q i j hk hq hi hj = r.within 3 q i j (lit< tt) hq hi hj
        order (suc (suc (suc zero))) q i j hk hq hi hj =
            no_more (delta_same q (λ c. (b.along_t c).fourth i) j ∙ delta_none q j)
        order (suc (suc (suc (suc k)))) q i j hk hq hi hj = absurd (omega arith)

    pub u_steps_bounded : Bounded n m (u_steps P)
    u_steps_bounded = record {
      within = λ k q i j hk hq hi hj.
          rw (
            delta_same q (λ b. delta_less k (λ a. P a (suc b)) (λ a. P a b) i) j,
            delta_steps q (λ b. delta k (λ a. P a b) i) j,
          )
          (order k q i j hk hq hi hj);
    }
      where
        order : (k q i j : ℕ) → k < 4 → q < 4 → i ≤ n → j ≤ m →
            Within (2 ^ 60) (delta (suc q) (λ b. delta k (λ a. P a b) i) j)
        order k zero i j hk hq hi hj = r.within k 1 i j hk (lit< tt) hi hj
        order k (suc zero) i j hk hq hi hj = r.within k 2 i j hk (lit< tt) hi hj
        order k (suc (suc zero)) i j hk hq hi hj = r.within k 3 i j hk (lit< tt) hi hj
        order k (suc (suc (suc zero))) i j hk hq hi hj =
            no_more ((delta_cubic {P = P} b.along_u k i).fourth j)
        order k (suc (suc (suc (suc q)))) i j hk hq hi hj = absurd (omega arith)

module _ {P : (i j : ℕ) → ℤ} {n m : ℕ} (r : Bounded n m P) where
  -- There is room for the next row, and in a row for the next sample.
  pub surface_room : {j : ℕ} → j ≤ m → SurfaceRoom (surface_of P j)
  unfolding surface_of
  surface_room {j} hj =
      every_order (λ k. differences_at (λ b. delta k (λ a. P a b) 0) j)
      (λ k hk. within_fields _ j (λ q hq. r.within k q 0 j hk hq zero-le hj))

  pub sample_room : {i j : ℕ} → i ≤ n → j ≤ m → Room (differences_at (λ a. P a j) i)
  unfolding delta
  sample_room {i} {j} hi hj = within_fields (λ a. P a j) i (λ k hk. r.within k 0 i j hk (lit< tt) hi hj)

  -- So the surface can be searched.
  pub searchable : IsBicubic P → {N : ℤ} {rows samples : ℕ} → Within (2 ^ 60) N → 1 ≤ rows → 1 ≤ samples → rows ≤ suc m →
      samples ≤ suc n → Searchable (surface_of P 0) N rows samples
  searchable b s some_row some-sample hr hs = record {
    scale = s;
    some_row = some_row;
    some-sample = some-sample;
    row_room = λ j h. rw (surface_at_lem b j) (surface_room (omega arith));
    sample_room = λ i j hi hj. rw (sample_at b i j) (sample_room (omega arith) (omega arith));
  }
