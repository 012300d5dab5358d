-- `Axis::step` meets its contract: one addition keeps the fields within twice their bound, so the decision has room.
use mathlib.Core.Path.{◌≡◌}
use Prim.Native.Nat.{◌^◌}
use lib.Dec.{lit<}
use lib.IntN.{ℤ}
use Rattle.integers.proofs.Magnitude.{within_add}
use Rattle.cubic.specs.declared.axis.Axis.{Axis}
use Rattle.cubic.specs.Differences.{Cubic, next_of}
use Rattle.cubic.specs.Axis.{settle_of, step_of}
use Rattle.cubic.specs.Room.{Fields, Room, Settles, Steps}
use Rattle.cubic.proofs.Fits.{read, held, wider}
use Rattle.cubic.proofs.axis.Axis.step.Goals as goal

-- The next sample's fields are sums of two.
next_fields : {c n : Cubic} → Room c → n ≡ next_of c → Fields (2 ^ 61) n
unfolding next_of
next_fields p e =
    rw e (record {
      value = within_add p.value p.d1;
      d1 = within_add p.d1 p.d2;
      d2 = within_add p.d2 p.d3;
      d3 = wider p.d3;
    })

-- With the scale, the stride and the position as they are read back, and n a cubic.
module _ {N h : ℤ} {a : Axis} {n : Cubic} (p : Steps N h a) where
  settles : Fields (2 ^ 61) n → Settles (read N) (read h) (record { at = read a.at; cubic = n })
  settles f =
      rw ((held p.scale (lit< tt)).same, (held p.stride (lit< tt)).same, (held p.at (lit< tt)).same)
      (record { scale = p.scale; stride = p.stride; at = p.at; cubic = f })

  settled_next : n ≡ next_of a.cubic →
      {r : Axis} → r ≡ settle_of (read N) (read h) (record { at = read a.at; cubic = n }) → r ≡ step_of N h a
  unfolding step_of
  settled_next e q =
      rw ((held p.scale (lit< tt)).same, (held p.stride (lit< tt)).same, (held p.at (lit< tt)).same, e) at q

-- There is room with the next cubic, and there would be with the one before.
pub settle-requires : goal.settle-requires
settle-requires c =
    let p = c.requires in
    let next = next_fields p.cubic c.next.ensures in settles p (search wider)

pub returns : goal.returns
returns c = settled_next c.requires c.next.ensures c.settle.ensures
