-- A row of walkers, step by step: what a loop over a row keeps.
use mathlib.Core.Path.{◌≡◌, refl, ap, ◌∙◌}
use Prim.Native.Nat.{ℕ, zero, suc, ◌≤◌, ◌<◌, zero-le}
use native.Mathlib.Omega.{arith}
use lib.IntN.{ℤ}
use lib.ListN.{length, length-append}
use Rattle.scan.specs.Walker.{Walker, Strides, StepsAll, step_all, after, walkers, RowRoom}

-- The walker after i of n steps.
pub record AfterSteps (scale : ℤ) (h : Strides) (w₀ : Walker) (n i : ℕ) (w : Walker) : Type 0 where
  pub within : i ≤ n
  pub walker : w ≡ after scale h w₀ i

module _ (scale : ℤ) (h : Strides) (w₀ : Walker) (n : ℕ) where
  -- Before the first step.
  pub no_steps : AfterSteps scale h w₀ n 0 w₀
  unfolding after
  no_steps = record { within = zero-le; walker = refl }

module _ {scale : ℤ} {h : Strides} {w₀ w : Walker} {n i : ℕ} (s : AfterSteps scale h w₀ n i w) where
  -- What holds of every walker of the row holds of this one.
  pub holds_now : (C : Walker → Type 0) → ((k : ℕ) → k ≤ n → C (after scale h w₀ k)) → C w
  holds_now C all = rw s.walker (all i s.within)

  -- There is room for the next step.
  pub room_now : RowRoom n scale h w₀ → i < n → StepsAll scale h w
  room_now r l = rw s.walker (r i l)

  -- After one step more.
  pub step_more : {w' : Walker} → i < n → w' ≡ step_all scale h w → AfterSteps scale h w₀ n (suc i) w'
  unfolding after
  step_more l e = record { within = l; walker = e ∙ ap (step_all scale h) s.walker }

-- A row has n + 1 walkers.
pub length_walkers : (n : ℕ) (scale : ℤ) (h : Strides) (w : Walker) → length (walkers n scale h w) ≡ suc n
unfolding walkers
length_walkers zero scale h w = refl
length_walkers (suc n) scale h w = rw (length-append, length_walkers n scale h w) (omega arith)
