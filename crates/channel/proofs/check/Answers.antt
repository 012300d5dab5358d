-- `check` meets its contract: an accepted channel has no refusal.
use mathlib.Core.Path.{sym, ◌∙◌, subst}
use lib.Dec.{T}
use Rattle.channel.proofs.Range.{range_accepted}
use Rattle.channel.proofs.check.Goals as goal

pub returns-then-is_accepted : goal.returns-then-is_accepted
returns-then-is_accepted c =
    let e = sym c.if-is_accepted.true ∙ c.is_accepted.ensures in
    sym (range_accepted c.args.v (subst T e tt))
