-- Document 01's half-way channel: "per channel, one f32 addition, rounded once, and then one multiplication by 0.5".
use Rattle.std.specs.Prelude.{◌≡◌, true, false, cond, pos, negsuc, T, Float}
use Rattle.std.specs.Float.{fin, binary32}
use Rattle.std.specs.Float.Ieee.{add, mul, le}

-- The f32 value 0.5.
abbrev pub half32 : Float
half32 = fin false 1 (negsuc 0)

-- The f32 value minus zero.
abbrev pub minus_zero32 : Float
minus_zero32 = fin true 0 (pos 0)

-- The lower of two channels.
abbrev pub lower : Float → Float → Float
lower a b = cond (le a b) a b

-- The higher of two channels.
abbrev pub higher : Float → Float → Float
higher a b = cond (le a b) b a

-- r is half-way between the channels a and b.
pub record IsHalfWayChannel (a b r : Float) : Type 0 where
  -- one addition and one multiplication, each rounded once
  pub formula : r ≡ mul binary32 (add binary32 a b) half32
  -- it lies between the two given ones, ends included
  pub low : T (le (lower a b) r)
  pub high : T (le r (higher a b))
  -- two minus zeros give minus zero
  pub minus_zero : a ≡ minus_zero32 → b ≡ minus_zero32 → r ≡ minus_zero32
