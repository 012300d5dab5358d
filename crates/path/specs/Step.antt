-- Whether an axis of the machine moves with its next step.
use Rattle.std.specs.Prelude.{◌≡◌, ℕ, ◌^◌, ◌≤◌, Bool, ◌||◌, ℤ, pos, ◌-ℤ◌, int_le, int_lt}
use Rattle.cubic.specs.declared.axis.Axis as machine
use Rattle.cubic.specs.Differences.{next_of}
use Rattle.cubic.specs.Room.{Room}

-- Figure 2's decision at the next sample: the remainder lies above N, or at -N or below.
unfoldable pub moves_next : (scale : ℤ) → machine.Axis → Bool
moves_next scale a =
    let v : ℤ = (next_of a.cubic).value in
    int_lt scale v || int_le v (pos 0 -ℤ scale)

-- There is room to ask.
pub record Moving (scale : ℤ) (a : machine.Axis) : Type 0 where
  pub size : ℕ
  pub is : scale ≡ pos size
  pub small : size ≤ 2 ^ 60
  pub cubic : Room a.cubic
