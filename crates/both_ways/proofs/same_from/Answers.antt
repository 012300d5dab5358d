-- `same_from` meets its contract: two rests are the same where their bytes are.
use Rattle.both_ways.proofs.Same.{from_same}
use Rattle.both_ways.proofs.same_from.Goals as goal

pub returns-then-one-other : goal.returns-then-one-other
returns-then-one-other c =
    let a = c.args in
    from_same a.one.now a.other.now a.from _ c.if-one-other.true c.min-rest.ensures c.eq.result c.eq.ensures
