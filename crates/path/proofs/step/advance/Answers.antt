-- `advance` meets its contract: the sums of a move fit, and a move that is not up is down.
use Rattle.std.proofs.Common.{◌≡◌, ◌+◌, ◌^◌, true, false, ℤ, pos, ◌+ℤ◌, ◌-ℤ◌, sym, ◌∙◌, lit<, rules}
use lib.Signed.{lt_z, le_z}
use Rattle.decide.proofs.Truth.{both_false}
use Rattle.cubic.specs.declared.axis.Axis.{Axis}
use Rattle.cubic.specs.Differences.{Cubic, next_of}
use Rattle.cubic.specs.Axis.{with_value, settle_of, step_of}
use Rattle.cubic.specs.Room.{Steps}
use Rattle.cubic.proofs.Fits.{Holds, read, held, add, add_fits, sub, sub_fits}
use Rattle.path.specs.Step.{moves_next}
use Rattle.path.proofs.Held.{next_held}
use Rattle.path.proofs.step.advance.Goals as goal

-- What the machine holds.
module _ {N h : ℤ} {a : Axis} (p : Steps N h a) where
  scale : Holds (2 ^ 60) N (read N)
  scale = held p.scale (lit< tt)

  stride : Holds (2 ^ 61) h (read h)
  stride = held p.stride (lit< tt)

  at : Holds (2 ^ 61) a.at (read a.at)
  at = held p.at (lit< tt)

  two : Holds (2 ^ 60 + 2 ^ 60) (N +ℤ N) (read (read N +ℤ read N))
  two = add scale scale (lit< tt)

  value : {n : Cubic} → n ≡ next_of a.cubic → Holds (2 ^ 60 + 2 ^ 60) (next_of a.cubic).value (read n.value)
  value e = next_held p.cubic e

  -- The decision's three ends.
  goes_up : lt_z N (next_of a.cubic).value ≡ true →
      record { at = a.at +ℤ h; cubic = with_value ((next_of a.cubic).value -ℤ (N +ℤ N)) (next_of a.cubic) } ≡ step_of N h a
  unfolding step_of settle_of
  goes_up t = rw t

  goes_down : true ≡ moves_next N a → lt_z N (next_of a.cubic).value ≡ false →
      record { at = a.at -ℤ h; cubic = with_value ((next_of a.cubic).value +ℤ (N +ℤ N)) (next_of a.cubic) } ≡ step_of N h a
  unfolding step_of settle_of moves_next
  goes_down m t = rw (t, rw t at (sym m))

  stays : false ≡ moves_next N a → record { at = a.at; cubic = next_of a.cubic } ≡ step_of N h a
  unfolding step_of settle_of moves_next
  stays m =
      let v : ℤ = (next_of a.cubic).value in
      let w = both_false (lt_z N v) (le_z v (pos 0 -ℤ N)) (sym m) in rw (w.0, w.1)

pub overflow_add-two : goal.overflow_add-two
overflow_add-two c = let p = c.requires.steps in add_fits (scale p) (scale p) (lit< tt)

pub overflow_add-axis : goal.overflow_add-axis
overflow_add-axis c = let p = c.requires.steps in add_fits (at p) (stride p) (lit< tt)

pub overflow_sub-next : goal.overflow_sub-next
overflow_sub-next c =
    let p = c.requires.steps in sub_fits (value p c.next-next.ensures) (two p) (lit< tt)

pub returns-then-next-scale : goal.returns-then-next-scale
returns-then-next-scale c =
    let p = c.requires.steps in
    let v = value p c.next-next.ensures in
    let above : lt_z (read c.args.scale) (read c.next-next.result.value) ≡ true = search rules in
    rw ((add (at p) (stride p) (lit< tt)).same, (sub v (two p) (lit< tt)).same, c.next-next.ensures) at c.with.ensures ∙
    goes_up p (rw ((scale p).same, v.same) at above)

pub overflow_sub-axis : goal.overflow_sub-axis
overflow_sub-axis c = let p = c.requires.steps in sub_fits (at p) (stride p) (lit< tt)

pub overflow_add-next : goal.overflow_add-next
overflow_add-next c =
    let p = c.requires.steps in add_fits (value p c.next-next.ensures) (two p) (lit< tt)

pub returns-then-moved : goal.returns-then-moved
returns-then-moved c =
    let p = c.requires.steps in
    let v = value p c.next-next.ensures in
    let not_above = c.if-next-scale.false in
    rw ((sub (at p) (stride p) (lit< tt)).same, (add v (two p) (lit< tt)).same, c.next-next.ensures) at c.with-then-moved.ensures ∙
    goes_down p (sym c.if-moved.true ∙ c.requires.moved_value) (rw ((scale p).same, v.same) at not_above)

pub returns : goal.returns
returns c =
    let p = c.requires.steps in
    let moved : c.args.moved ≡ false = search rules in
    rw ((at p).same, (value p c.next-next.ensures).same, c.next-next.ensures) at c.with-2.ensures ∙ stays p (sym moved ∙ c.requires.moved_value)
