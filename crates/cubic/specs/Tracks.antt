-- What an axis of the machine has to do with the definitions: the sequence that it follows, and the cell that it has
-- reached.
use Rattle.std.specs.Prelude.{◌≡◌, ℕ, ◌*◌, ◌≤◌, ℤ, pos, ◌+ℤ◌, ◌-ℤ◌, ◌*ℤ◌, ◌<ℤ◌, ◌≤ℤ◌}
use Rattle.cubic.specs.declared.axis.Axis.{Axis}
use Rattle.cubic.specs.Differences.{delta, IsCubic}

-- P is a cubic, and from 0 to n it is twice the exact value f. (Beyond n they differ, since f subtracts in ℕ.)
pub record Doubles (n : ℕ) (f : ℕ → ℕ) (P : ℕ → ℤ) : Type 0 where
  pub cubic : IsCubic P
  pub agrees : (i : ℕ) → i ≤ n → P i ≡ pos (2 * f i)

-- With the scale s, the axis is at index i of P and at the coordinate c: remainder + 2s × c = P i, beside the
-- differences of P at i.
pub record Tracks (s : ℕ) (stride : ℤ) (P : ℕ → ℤ) (i c : ℕ) (a : Axis) : Type 0 where
  pub place : a.at ≡ stride *ℤ pos c
  pub remainder : a.cubic.value +ℤ pos (2 * (s * c)) ≡ P i
  pub first : a.cubic.d1 ≡ delta 1 P i
  pub second : a.cubic.d2 ≡ delta 2 P i
  pub third : a.cubic.d3 ≡ delta 3 P i

-- A remainder x lies above -N, up to N.
pub record Remainder (s : ℕ) (x : ℤ) : Type 0 where
  pub above : (pos 0 -ℤ pos s) <ℤ x
  pub up_to : x ≤ℤ pos s
