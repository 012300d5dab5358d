-- `Axis::settle` meets its contract: the sums of a move fit, and the tests are those of the definition.
use mathlib.Core.Path.{◌≡◌}
use mathlib.Core.Bool.{Bool}
use Prim.Native.Nat.{◌+◌, ◌^◌}
use lib.Dec.{lit<}
use lib.IntN.{ℤ, pos, ◌+ℤ◌, ◌-ℤ◌}
use lib.Signed.{lt_z, le_z}
use Rattle.cubic.specs.declared.axis.Axis.{Axis}
use Rattle.cubic.specs.Axis.{settle_of}
use Rattle.cubic.specs.Room.{Settles}
use Rattle.cubic.proofs.Fits.{Holds, read, literal, held, add, sub}
use Rattle.cubic.proofs.axis.Axis.settle.Goals as goal

-- What the machine holds.
module _ {N h : ℤ} {a : Axis} (p : Settles N h a) where
  scale : Holds (2 ^ 60) N (read N)
  scale = held p.scale (lit< tt)

  stride : Holds (2 ^ 61) h (read h)
  stride = held p.stride (lit< tt)

  at : Holds (2 ^ 61) a.at (read a.at)
  at = held p.at (lit< tt)

  value : Holds (2 ^ 61) a.cubic.value (read a.cubic.value)
  value = held p.cubic.value (lit< tt)

  two : Holds (2 ^ 60 + 2 ^ 60) (N +ℤ N) (read (read N +ℤ read N))
  two = add scale scale (lit< tt)

  low : Holds (0 + 2 ^ 60) (pos 0 -ℤ N) (read (pos 0 -ℤ read N))
  low = sub (literal 0) scale (lit< tt)

  -- The test against N, and the one against -N.
  above : {b : Bool} → lt_z (read N) (read a.cubic.value) ≡ b → lt_z N a.cubic.value ≡ b
  above t = rw (scale.same, value.same) at t

  below : {b : Bool} → le_z (read a.cubic.value) (read (pos 0 -ℤ read N)) ≡ b → le_z a.cubic.value (pos 0 -ℤ N) ≡ b
  below t = rw (value.same, low.same) at t

pub returns-then-self-scale : goal.returns-then-self-scale
unfolding settle_of
returns-then-self-scale c =
    let p = c.requires in
    simp ((add (at p) (stride p) (lit< tt)).same, (sub (value p) (two p) (lit< tt)).same, above p c.if-self-scale.true)

pub returns-then-self-scale-2 : goal.returns-then-self-scale-2
unfolding settle_of
returns-then-self-scale-2 c =
    let p = c.requires in
    simp (
      (sub (at p) (stride p) (lit< tt)).same,
      (add (value p) (two p) (lit< tt)).same,
      above p c.if-self-scale.false,
      below p c.if-self-scale-2.true,
    )

pub returns-else-self-scale-2 : goal.returns-else-self-scale-2
unfolding settle_of
returns-else-self-scale-2 c =
    let p = c.requires in simp (above p c.if-self-scale.false, below p c.if-self-scale-2.false)
