-- `put_columns` meets its contract: the columns from i on are written, and those before are of what is left.
use mathlib.Core.Path.{◌≡◌, sym, ◌∙◌, ap}
use Prim.Native.Nat.{suc, ◌-◌}
use native.Mathlib.Omega.{arith}
use lib.ListN.{length}
use Rattle.sheet.specs.Field.{in_columns}
use Rattle.sheet_text.proofs.text.put_columns.Invariants.{none, next, all}
use Rattle.sheet_text.proofs.text.put_columns.Goals as goal

pub loop-i-init : goal.loop-i-init
loop-i-init c = none (omega arith)

pub loop-i-preserved : goal.loop-i-preserved
loop-i-preserved c =
    let l = c.loop-i in
    let e : l.i ≡ suc (l.i - 1) = omega arith in
    rw c.column.ensures (next (omega (arith, l.auto.columns)) (omega arith) (rw e at l.invariant))

pub returns : goal.returns
returns c =
    let l = c.loop-i in
    let none_left : l.i ≡ 0 = omega arith in
    let width : length c.args.columns.now ≡ suc (length c.args.columns.now - 1) = omega arith in
    rw c.digit.ensures (all (omega (arith, l.auto.columns)) (rw none_left at l.invariant) ∙ ap (λ w. in_columns w c.args.v) (sym width))
