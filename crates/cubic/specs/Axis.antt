-- One axis of a drawing: its start, the decision of figure 2, the step, and the long-step test.
use Rattle.std.specs.Prelude.{Bool, cond, ◌||◌, ℤ, pos, ◌+ℤ◌, ◌-ℤ◌, ◌*ℤ◌}
use Rattle.std.specs.Int.Signed.{lt_z, le_z}
use Rattle.cubic.specs.declared.axis.Axis.{Axis}
use Rattle.cubic.specs.Differences.{Cubic, next_of, heads_of}

-- The same differences beside another value.
abbrev pub with_value : ℤ → Cubic → Cubic
with_value v c = record { value = v; d1 = c.d1; d2 = c.d2; d3 = c.d3 }

-- Sample 0 lies in the cell of point 0, so the remainder is 0.
unfoldable pub start_of : (stride point : ℤ) → Cubic → Axis
start_of stride point c = record { at = stride *ℤ point; cubic = with_value (pos 0) c }

-- A row starts with the coordinate and the remainder of the walk along u.
abbrev pub row_of : Axis → Cubic → Cubic → Cubic → Axis
row_of a b c d = record { at = a.at; cubic = heads_of a.cubic b c d }

-- Above N the coordinate goes up by one, at -N or below down by one, and the remainder makes up for it by 2N.
-- Above -N and up to N nothing moves.
unfoldable pub settle_of : (scale stride : ℤ) → Axis → Axis
settle_of scale stride a =
    cond (lt_z scale a.cubic.value)
    (record { at = a.at +ℤ stride; cubic = with_value (a.cubic.value -ℤ (scale +ℤ scale)) a.cubic })
    (cond (le_z a.cubic.value (pos 0 -ℤ scale))
    (record { at = a.at -ℤ stride; cubic = with_value (a.cubic.value +ℤ (scale +ℤ scale)) a.cubic })
    a)

-- The differences go on, and then the coordinate follows.
unfoldable pub step_of : (scale stride : ℤ) → Axis → Axis
step_of scale stride a = settle_of scale stride (record { at = a.at; cubic = next_of a.cubic })

-- |d1| > 2N.
unfoldable pub long_of : (scale d1 : ℤ) → Bool
long_of scale d1 = lt_z (scale +ℤ scale) d1 || lt_z d1 (pos 0 -ℤ (scale +ℤ scale))
