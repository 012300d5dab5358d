-- A test over rows and samples, and one over slices and between them: what one that passes, and what none, say of all.
use mathlib.Core.Path.{◌≡◌, subst, sym}
use mathlib.Core.Logic.{inl, inr, ⊎_elim}
use mathlib.Core.Bool.{Bool, true, false}
use Prim.Native.Nat.{ℕ, suc, ◌≤◌, ◌<◌}
use native.Mathlib.Omega.{arith}
use lib.Dec.{T}
use lib.IntN.{ℤ}
use Rattle.decide.specs.Some.{some_below}
use Rattle.decide.proofs.Truth.{either, true_of, false_of}
use Rattle.decide.proofs.Some.{some_below_lem}
use Rattle.cubic.specs.Axis.{long_of}
use Rattle.surface.specs.Surface.{Surface, value_at, some_long}
use Rattle.surface.specs.Volume.{Volume, long_in_slice, long_to_next, long_volume_steps}

module _ (s : Surface) (N : ℤ) (rows samples : ℕ) where
  abbrev test : (i j : ℕ) → Bool
  test i j = long_of N (value_at s i j)

  abbrev row : ℕ → Bool
  row j = some_below samples (λ i. test i j)

  -- A value beyond 2N is found.
  pub found : {i j : ℕ} → i < samples → j < rows → test i j ≡ true → some_long s N rows samples ≡ true
  unfolding some_long
  found {i} {j} hi hj e =
      true_of _ ((some_below_lem row rows).1 (j, hj, (some_below_lem (λ k. test k j) samples).1 (i, hi, rw e tt)))

  -- Where there is none, none is found.
  pub nowhere : ((j : ℕ) → j < rows → (i : ℕ) → i < samples → test i j ≡ false) → some_long s N rows samples ≡ false
  unfolding some_long
  nowhere none =
      false_of _ (λ t. let r = (some_below_lem row rows).0 t in
      let v = (some_below_lem (λ k. test k r.0) samples).0 r.2 in
      rw (none r.0 r.1 v.0 v.1) at v.2)

module _ (v : Volume) (N : ℤ) (n m l : ℕ) where
  abbrev inside : Bool
  inside = some_below (suc l) (long_in_slice v N n m)

  abbrev between : Bool
  between = some_below l (long_to_next v N n m)

  -- A difference beyond 2N in a slice is found, and one from a slice to the next.
  pub found_inside : {k : ℕ} → k ≤ l → long_in_slice v N n m k ≡ true → long_volume_steps v N n m l ≡ true
  unfolding long_volume_steps
  found_inside {k} hk e =
      true_of _ ((either inside between).1
      (inl ((some_below_lem (long_in_slice v N n m) (suc l)).1 (k, omega arith, subst T (sym e) tt))))

  pub found_between : {k : ℕ} → k < l → long_to_next v N n m k ≡ true → long_volume_steps v N n m l ≡ true
  unfolding long_volume_steps
  found_between {k} hk e =
      true_of _ ((either inside between).1 (inr ((some_below_lem (long_to_next v N n m) l).1 (k, hk, subst T (sym e) tt))))

  -- Where there is none, none is found.
  pub found_nowhere : ((k : ℕ) → k ≤ l → long_in_slice v N n m k ≡ false) → ((k : ℕ) → k < l → long_to_next v N n m k ≡ false) →
      long_volume_steps v N n m l ≡ false
  unfolding long_volume_steps
  found_nowhere in-none to_none =
      false_of _ (λ t. ⊎_elim
      (λ x. let w = (some_below_lem (long_in_slice v N n m) (suc l)).0 x in
      subst T (in-none w.0 (omega (arith, w.1))) w.2)
      (λ x. let w = (some_below_lem (long_to_next v N n m) l).0 x in subst T (to_none w.0 w.1) w.2)
      ((either inside between).0 t))
