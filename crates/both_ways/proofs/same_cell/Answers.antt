-- `same_cell` meets its contract: three bytes are the same where each of them is.
use Rattle.std.proofs.Common.{◌≡◌, ◌+◌, ◌-◌, ap₂, ◌∙◌, arith, take, drop}
use lib.Pointwise.{pointwise}
use lib.Dec.{eqb}
use Rattle.both_ways.proofs.Same.{cell_same}
use Rattle.both_ways.proofs.same_cell.Goals as goal

pub returns : goal.returns
returns c =
    let a = c.args in
    let one : a.at + 3 - a.at ≡ 3 = omega arith in
    let other : a.place + 3 - a.place ≡ 3 = omega arith in
    cell_same a.list.now a.back.now a.at a.place c.requires.0 c.requires.1 c.eq.result
    (c.eq.ensures ∙ ap₂ (λ m n. pointwise eqb (take m (drop a.at a.list.now)) (take n (drop a.place a.back.now))) one other)
