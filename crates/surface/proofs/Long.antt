-- The search finds a long step exactly where there is one: in a surface that follows twice the values of two parameters, and in
-- a volume that follows twice those of three.
use mathlib.Core.Path.{◌≡◌, sym, ◌∙◌, ap, subst}
use mathlib.Core.Logic.{◌↔◌, ◌⊎◌, inl, inr, ⊎_elim}
use mathlib.Core.Bool.{Bool}
use mathlib.Core.List.{List, [], ◌∷◌, ◌++◌}
use Prim.Native.Nat.{ℕ, suc, ◌*◌, ◌≤◌, ◌<◌, ◌^◌}
use native.Mathlib.Nat.{le_refl}
use native.Mathlib.Omega.{arith}
use lib.Dec.{T}
use lib.IntN.{ℤ, pos}
use Rattle.integers.specs.Magnitude.{Within}
use Rattle.bezier.specs.Exact.{no_index, index}
use Rattle.decide.specs.Some.{some_below}
use Rattle.decide.proofs.Truth.{either, same_test}
use Rattle.decide.proofs.Some.{some_below_lem}
use Rattle.neighbours.specs.Steps.{far_apart, Neighbours, first, later, too_long, LongStep}
use Rattle.neighbours.proofs.Long.{too_long_lem}
use Rattle.cubic.specs.Differences.{IsBicubic, IsTricubic}
use Rattle.cubic.specs.Axis.{long_of}
use Rattle.cubic.proofs.LongStep.{long_values}
use Rattle.surface.specs.Surface.{surface_of, value_at, some_long, long_steps, Searchable, StepsSearchable, Bounded, t_steps, u_steps}
use Rattle.surface.specs.Volume.{volume_of, long_in_slice, long_to_next, long_volume_steps, VolumeRoom}
use Rattle.surface.specs.Volume.{VolumeSearchable, VolumeBounded, slice_at, v_steps}
use Rattle.surface.proofs.Follows.{value_at_lem, t_steps_of, u_steps_of, t_steps_bicubic, u_steps_bicubic}
use Rattle.surface.proofs.Follows.{t_steps_bounded, u_steps_bounded, searchable}
use Rattle.surface.proofs.Slices.{slice_bicubic, v_steps_tricubic, volume_at_lem, slice_at_lem, steps_at}
use Rattle.surface.proofs.Slices.{volume_room, slice_bounded, v_steps_bounded}

-- A value beyond 2N, among so many rows and samples.
pub record Beyond (D : (i j : ℕ) → ℤ) (N : ℤ) (rows samples : ℕ) : Type 0 where
  pub i : ℕ
  pub j : ℕ
  pub in_samples : i < samples
  pub in_rows : j < rows
  pub is_long : T (long_of N (D i j))

-- One is found exactly where there is one.
pub found_beyond : {D : (i j : ℕ) → ℤ} → IsBicubic D → (N : ℤ) (rows samples : ℕ) →
    T (some_long (surface_of D 0) N rows samples) ↔ Beyond D N rows samples
unfolding some_long
found_beyond {D} b N rows samples = (
  λ t. let r = (some_below_lem row rows).0 t in
      let c = (some_below_lem (test r.0) samples).0 r.2 in
      record {
        i = c.0;
        j = r.0;
        in_samples = c.1;
        in_rows = r.1;
        is_long = subst (λ z. T (long_of N z)) (value_at_lem b c.0 r.0) c.2;
      },
  λ l. (some_below_lem row rows).1 (
    l.j,
    l.in_rows,
    (some_below_lem (test l.j) samples).1
        (l.i, l.in_samples, subst (λ z. T (long_of N z)) (sym (value_at_lem b l.i l.j)) l.is_long),
  ),
)
  where
    test : (j i : ℕ) → Bool
    test j i = long_of N (value_at (surface_of D 0) i j)

    row : ℕ → Bool
    row j = some_below samples (test j)

-- In a surface: P is twice f, from sample (0, 0) to sample (n, m).
module _ {P : (i j : ℕ) → ℤ} (b : IsBicubic P) (s n m : ℕ) (f : List ℕ → ℕ)
    (doubles : (i j : ℕ) → i ≤ n → j ≤ m → P i j ≡ pos (2 * f (i ∷ j ∷ []))) where
  t_far : {i j : ℕ} → i < n → j ≤ m →
      long_of (pos s) (t_steps P i j) ≡ far_apart s (f (i ∷ j ∷ [])) (f (suc i ∷ j ∷ []))
  t_far {i} {j} hi hj = rw (doubles (suc i) j hi hj, doubles i j (omega arith) hj) (long_values s _ _)

  u_far : {i j : ℕ} → i ≤ n → j < m →
      long_of (pos s) (u_steps P i j) ≡ far_apart s (f (i ∷ j ∷ [])) (f (i ∷ suc j ∷ []))
  u_far {i} {j} hi hj = rw (doubles i (suc j) hi hj, doubles i j hi (omega arith)) (long_values s _ _)

  -- The two searches, with the surfaces that they go through.
  parts : T (long_steps (surface_of P 0) (pos s) n m) ↔
      (Beyond (t_steps P) (pos s) (suc m) n ⊎ Beyond (u_steps P) (pos s) m (suc n))
  unfolding long_steps
  parts =
      rw (t_steps_of b 0, u_steps_of b 0)
      (let o = either (some_long (surface_of (t_steps P) 0) (pos s) (suc m) n) (some_long (surface_of (u_steps P) 0) (pos s) m (suc n)) in
      let t = found_beyond (t_steps_bicubic b) (pos s) (suc m) n in
      let u = found_beyond (u_steps_bicubic b) (pos s) m (suc n) in (
        λ w. ⊎_elim (λ x. inl (t.0 x)) (λ x. inr (u.0 x)) (o.0 w),
        λ w. o.1 (⊎_elim (λ x. inl (t.1 x)) (λ x. inr (u.1 x)) w),
      ))

  pub surface_finds : long_steps (surface_of P 0) (pos s) n m ≡ too_long s (n ∷ m ∷ []) f
  surface_finds = same_test _ _ (λ t. (too_long_lem s (n ∷ m ∷ []) f).1 (⊎_elim t_step u_step (parts.0 t))) seen
    where
      t_step : Beyond (t_steps P) (pos s) (suc m) n → LongStep s (n ∷ m ∷ []) f
      t_step l =
          let hj : l.j ≤ m = omega (arith, l.in_rows) in
          record {
            from = l.i ∷ l.j ∷ [];
            to = suc l.i ∷ l.j ∷ [];
            neighbours = first l.in_samples (index hj no_index);
            far = subst T (t_far l.in_samples hj) l.is_long;
          }

      u_step : Beyond (u_steps P) (pos s) m (suc n) → LongStep s (n ∷ m ∷ []) f
      u_step l =
          let hi : l.i ≤ n = omega (arith, l.in_samples) in
          record {
            from = l.i ∷ l.j ∷ [];
            to = l.i ∷ suc l.j ∷ [];
            neighbours = later hi (first l.in_rows no_index);
            far = subst T (u_far hi l.in_rows) l.is_long;
          }

      by_neighbours : {is js : List ℕ} → Neighbours (n ∷ m ∷ []) is js → T (far_apart s (f is) (f js)) →
          Beyond (t_steps P) (pos s) (suc m) n ⊎ Beyond (u_steps P) (pos s) m (suc n)
      by_neighbours (first {i = i} hi (index {i = j} hj no_index)) t =
          inl (record { i = i; j = j; in_samples = hi; in_rows = omega arith; is_long = subst T (sym (t_far hi hj)) t })
      by_neighbours (later {i = i} hi (first {i = j} hj no_index)) t =
          inr (record { i = i; j = j; in_samples = omega arith; in_rows = hj; is_long = subst T (sym (u_far hi hj)) t })
      by_neighbours (later hi (later hj none)) t = elim none [ ]

      seen : T (too_long s (n ∷ m ∷ []) f) → T (long_steps (surface_of P 0) (pos s) n m)
      seen t = let l = (too_long_lem s (n ∷ m ∷ []) f).0 t in parts.1 (by_neighbours l.neighbours l.far)

-- In a volume: Q is twice f, from sample (0, 0, 0) to sample (n, m, l).
module _ {Q : (i j k : ℕ) → ℤ} (b : IsTricubic Q) (s n m l : ℕ) (f : List ℕ → ℕ)
    (doubles : (i j k : ℕ) → i ≤ n → j ≤ m → k ≤ l → Q i j k ≡ pos (2 * f (i ∷ j ∷ k ∷ []))) where
  -- The values of slice k.
  abbrev in_slice : ℕ → List ℕ → ℕ
  in_slice k is = f (is ++ k ∷ [])

  -- The search in a slice is that of the surface there.
  slice_finds : (k : ℕ) → k ≤ l → long_in_slice (volume_of Q 0) (pos s) n m k ≡ too_long s (n ∷ m ∷ []) (in_slice k)
  slice_finds k hk =
      ap (λ v. long_steps v (pos s) n m) (slice_at_lem b k) ∙
      surface_finds (slice_bicubic b k) s n m (in_slice k) (λ i j hi hj. doubles i j k hi hj hk)

  v_far : {i j k : ℕ} → i ≤ n → j ≤ m → k < l →
      long_of (pos s) (v_steps Q i j k) ≡ far_apart s (f (i ∷ j ∷ k ∷ [])) (f (i ∷ j ∷ suc k ∷ []))
  v_far {i} {j} {k} hi hj hk =
      rw (doubles i j (suc k) hi hj hk, doubles i j k hi hj (omega arith)) (long_values s _ _)

  -- The search from slice k to the next is that of the surface of first differences along v.
  next_finds : (k : ℕ) →
      T (long_to_next (volume_of Q 0) (pos s) n m k) ↔ Beyond (slice_at (v_steps Q) k) (pos s) (suc m) (suc n)
  next_finds k =
      subst (λ d. T (some_long d (pos s) (suc m) (suc n)) ↔ Beyond (slice_at (v_steps Q) k) (pos s) (suc m) (suc n))
      (sym (steps_at b k)) (found_beyond (slice_bicubic (v_steps_tricubic b) k) (pos s) (suc m) (suc n))

  abbrev counts : List ℕ
  counts = n ∷ m ∷ l ∷ []

  -- A long step of a slice is one of the volume.
  of_slice : {is js : List ℕ} (k : ℕ) → k ≤ l → Neighbours (n ∷ m ∷ []) is js → Neighbours counts (is ++ k ∷ []) (js ++ k ∷ [])
  of_slice k hk (first hi (index hj no_index)) = first hi (index hj (index hk no_index))
  of_slice k hk (later hi (first hj no_index)) = later hi (first hj (index hk no_index))
  of_slice k hk (later hi (later hj none)) = elim none [ ]

  pub volume_finds : long_volume_steps (volume_of Q 0) (pos s) n m l ≡ too_long s counts f
  unfolding long_volume_steps
  volume_finds = same_test _ _ to from
    where
      slices : T (some_below (suc l) (long_in_slice (volume_of Q 0) (pos s) n m)) → LongStep s counts f
      slices t =
          let w = (some_below_lem (long_in_slice (volume_of Q 0) (pos s) n m) (suc l)).0 t in
          let hk : w.0 ≤ l = omega (arith, w.1) in
          let x = (too_long_lem s (n ∷ m ∷ []) (in_slice w.0)).0 (subst T (slice_finds w.0 hk) w.2) in
          record {
            from = x.from ++ w.0 ∷ [];
            to = x.to ++ w.0 ∷ [];
            neighbours = of_slice w.0 hk x.neighbours;
            far = x.far;
          }

      between : T (some_below l (long_to_next (volume_of Q 0) (pos s) n m)) → LongStep s counts f
      between t =
          let w = (some_below_lem (long_to_next (volume_of Q 0) (pos s) n m) l).0 t in
          let x = (next_finds w.0).0 w.2 in
          let hi : x.i ≤ n = omega (arith, x.in_samples) in
          let hj : x.j ≤ m = omega (arith, x.in_rows) in
          record {
            from = x.i ∷ x.j ∷ w.0 ∷ [];
            to = x.i ∷ x.j ∷ suc w.0 ∷ [];
            neighbours = later hi (later hj (first w.1 no_index));
            far = subst T (v_far hi hj w.1) x.is_long;
          }

      to : T (long_volume_steps (volume_of Q 0) (pos s) n m l) → T (too_long s counts f)
      to t =
          (too_long_lem s counts f).1
          (⊎_elim slices between
          ((either (some_below (suc l) (long_in_slice (volume_of Q 0) (pos s) n m)) (some_below l (long_to_next (volume_of Q 0) (pos s) n m))).0 t))

      in_slice_seen : {is js : List ℕ} (k : ℕ) → k ≤ l → Neighbours (n ∷ m ∷ []) is js → T (far_apart s (in_slice k is) (in_slice k js)) →
          T (some_below (suc l) (long_in_slice (volume_of Q 0) (pos s) n m))
      in_slice_seen {is} {js} k hk h t =
          (some_below_lem (long_in_slice (volume_of Q 0) (pos s) n m) (suc l)).1 (
            k,
            omega arith,
            subst T (sym (slice_finds k hk))
                ((too_long_lem s (n ∷ m ∷ []) (in_slice k)).1 (record { from = is; to = js; neighbours = h; far = t })),
          )

      seen : {is js : List ℕ} → Neighbours counts is js → T (far_apart s (f is) (f js)) →
          T (some_below (suc l) (long_in_slice (volume_of Q 0) (pos s) n m)) ⊎ T (some_below l (long_to_next (volume_of Q 0) (pos s) n m))
      seen (first {i = i} hi (index {i = j} hj (index {i = k} hk no_index))) t =
          inl (in_slice_seen k hk (first hi (index hj no_index)) t)
      seen (later {i = i} hi (first {i = j} hj (index {i = k} hk no_index))) t =
          inl (in_slice_seen k hk (later hi (first hj no_index)) t)
      seen (later {i = i} hi (later {i = j} hj (first {i = k} hk no_index))) t =
          inr ((some_below_lem (long_to_next (volume_of Q 0) (pos s) n m) l).1 (
            k,
            hk,
            (next_finds k).1
                (record { i = i; j = j; in_samples = omega arith; in_rows = omega arith; is_long = subst T (sym (v_far hi hj hk)) t }),
          ))
      seen (later hi (later hj (later hk none))) t = elim none [ ]

      from : T (too_long s counts f) → T (long_volume_steps (volume_of Q 0) (pos s) n m l)
      from t =
          let x = (too_long_lem s counts f).0 t in
          (either (some_below (suc l) (long_in_slice (volume_of Q 0) (pos s) n m)) (some_below l (long_to_next (volume_of Q 0) (pos s) n m))).1
          (seen x.neighbours x.far)

-- Where the values have room, what the step test asks for is there.
pub steps_searchable : {P : (i j : ℕ) → ℤ} {n m : ℕ} {N : ℤ} → IsBicubic P → Bounded n m P → Within (2 ^ 60) N → 1 ≤ n → 1 ≤ m →
    n ≤ 256 → m ≤ 256 → StepsSearchable (surface_of P 0) N n m
steps_searchable {P} {n} {m} b r s n_least m_least n_most m_most = record {
  n_most = n_most;
  m_most = m_most;
  along_t =
      rw (t_steps_of b 0)
      (searchable (t_steps_bounded b r) (t_steps_bicubic b) s (omega arith) n_least (le_refl (suc m)) (omega arith));
  along_u =
      rw (u_steps_of b 0)
      (searchable (u_steps_bounded b r) (u_steps_bicubic b) s m_least (omega arith) (omega arith) (le_refl (suc n)));
}

pub volume_searchable : {Q : (i j k : ℕ) → ℤ} {n m l : ℕ} {N : ℤ} → IsTricubic Q → VolumeBounded n m l Q → Within (2 ^ 60) N →
    1 ≤ n → 1 ≤ m → n ≤ 256 → m ≤ 256 → VolumeSearchable (volume_of Q 0) N n m l
volume_searchable {Q} {n} {m} {N = N} b r s n_least m_least n_most m_most = record {
  n_most = n_most;
  m_most = m_most;
  in_slice = λ k hk.
      subst (λ v. StepsSearchable v N n m) (sym (slice_at_lem b k))
      (steps_searchable (slice_bicubic b k) (slice_bounded r hk) s n_least m_least n_most m_most);
  to_next = λ k hk.
      subst (λ v. Searchable v N (suc m) (suc n)) (sym (steps_at b k))
      (searchable (v_steps_bounded r (omega arith)) (slice_bicubic (v_steps_tricubic b) k) s (omega arith) (omega arith)
      (le_refl (suc m)) (le_refl (suc n)));
  room = λ k hk. subst VolumeRoom (sym (volume_at_lem b k)) (volume_room r (omega arith));
}
