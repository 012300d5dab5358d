-- Differences by their order: what holds at each of the orders 0 to 3.
use mathlib.Core.Path.{◌≡◌, ap, fun_ext}
use Prim.Native.Nat.{ℕ, ◌<◌}
use lib.Dec.{lit<}
use Rattle.cubic.specs.Differences.{orders, Every, Across}

module _ {A : Type 0} where
  -- Differences are equal where they are at each order.
  pub same_orders : {f g : ℕ → A} → ((k : ℕ) → f k ≡ g k) → orders f ≡ orders g
  same_orders e = ap orders (fun_ext e)

  pub every_order : {P : A → Type 0} (f : ℕ → A) → ((k : ℕ) → k < 4 → P (f k)) → Every P (orders f)
  every_order f h = record { value = h 0 (lit< tt); d1 = h 1 (lit< tt); d2 = h 2 (lit< tt); d3 = h 3 (lit< tt) }

  pub across_orders : {P : A → A → A → A → Type 0} (f0 f1 f2 f3 : ℕ → A) →
      ((k : ℕ) → k < 4 → P (f0 k) (f1 k) (f2 k) (f3 k)) → Across P (orders f0) (orders f1) (orders f2) (orders f3)
  across_orders f0 f1 f2 f3 h = record { value = h 0 (lit< tt); d1 = h 1 (lit< tt); d2 = h 2 (lit< tt); d3 = h 3 (lit< tt) }
