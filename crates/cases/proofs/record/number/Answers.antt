-- `number` meets its contract: after i digits the value is that of the first i, which i digits can hold.
use Rattle.std.proofs.Common.{◌≡◌, ◌+◌, ◌*◌, ◌^◌, refl, pow-suc, add-one, arith, rules}
use Rattle.cases.specs.Record.{value_at}
use Rattle.cases.proofs.record.number.Invariants.{room, value_at_more}
use Rattle.cases.proofs.record.number.Goals as goal

pub loop-i-init : goal.loop-i-init
unfolding value_at
loop-i-init c = (search rules, refl, search rules)

pub overflow_mul-value : goal.overflow_mul-value
overflow_mul-value c =
    let l = c.loop-i in
    omega (arith, room l.value l.i (omega arith) l.invariant.2)

pub overflow_add-value : goal.overflow_add-value
overflow_add-value c =
    let l = c.loop-i in
    omega (arith, room l.value l.i (omega arith) l.invariant.2)

pub loop-i-preserved : goal.loop-i-preserved
loop-i-preserved c =
    let l = c.loop-i in
    let n = l.invariant.1 in
    let d = c.digit.ensures.0 in
    let p : 16 ^ (l.i + 1) ≡ 16 ^ l.i * 16 = rw (add-one, pow-suc) in
    (omega arith, rw (value_at_more, ← n, ← d), omega arith)
