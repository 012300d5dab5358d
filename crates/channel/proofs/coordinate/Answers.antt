-- `coordinate` meets its contract: the channel is raised, and the bits of the raised one give the coordinate.
use mathlib.Core.Path.{sym, subst}
use Prim.Native.Nat.{◌+◌, ◌-◌, ◌*◌, ◌/◌, ◌≤◌}
use native.Mathlib.Omega.{arith}
use lib.Dec.{T, lit≤}
use lib.Pow.{shr_le}
use lib.Ieee.{binary32, of_bits, to_bits, le, fits}
use Rattle.channel.specs.Channel.{in_range}
use Rattle.channel.proofs.Order.{range_no_nan}
use Rattle.channel.proofs.Bits.{fraction_field}
use Rattle.channel.proofs.Raised.{Raised, raised_small, raised_large, field_ge, field_le, field_is}
use Rattle.channel.proofs.FromBits.{product_le, coordinate_below, raised_coordinate}
use Rattle.channel.proofs.coordinate.Goals as goal
use Rattle.channel.proofs.coordinate.Goals.{Joined-v, then-v, else-v}

-- What the channel is raised to. That the code's constant is from 1/128, and in cell 0 at every side, is computed.
raised : (c : Joined-v) → Raised c.args.v c.if-v.raised
unfolding of_bits le fits in_range
raised c =
    let v = c.args.v in
    elim c.if-v.branch [
      | then-v w ↦ raised_small v w.raised-is (lit≤ tt) tt tt (lit≤ tt) c.requires.t w.if-v.true
      | else-v w ↦ rw w.raised-is (raised_large v _ w.if-v.false (lit≤ tt) tt (subst T (sym c.well_formed.1.0.1) tt) c.requires.t)
    ]

pub returns : goal.returns
returns c =
    raised_coordinate c.args.side c.args.v c.if-v.raised c.requires.le_side.0 c.requires.le_side.1 (raised c)

-- The exponent's field of the raised channel.
field : (c : Joined-v) → let x = to_bits binary32 c.if-v.raised / 8388608 in (120 ≤ x) × (x ≤ 127)
field c =
    let r = raised c in
    let u = c.if-v.raised in
    rw (← field_is u r.held r.range r.large)
    (field_ge u r.held r.range r.large, field_le u r.held r.range r.large)

pub float_to_bits-b : goal.float_to_bits-b
float_to_bits-b c = range_no_nan c.if-v.raised (raised c).range

pub overflow_mul-w : goal.overflow_mul-w
overflow_mul-w c =
    omega (arith, product_le (to_bits binary32 c.if-v.raised) c.args.side c.requires.le_side.1)

pub overflow_sub-c-2 : goal.overflow_sub-c-2
overflow_sub-c-2 c = omega (arith, field c)

pub overflow_shr-c : goal.overflow_shr-c
overflow_shr-c c = omega (arith, field c)

pub overflow_add-c : goal.overflow_add-c
overflow_add-c c =
    let b = to_bits binary32 c.if-v.raised in
    let w = (8388608 + fraction_field b) * (c.args.side - 1) in
    omega (arith, product_le b c.args.side c.requires.le_side.1, shr_le (w - 1) (149 - b / 8388608))

pub overflow_cast-result : goal.overflow_cast-result
overflow_cast-result c =
    omega (arith, returns c, coordinate_below c.args.side c.args.v c.requires.le_side.0 c.requires.t, c.requires.le_side.1)
