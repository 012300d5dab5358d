-- `is_above` meets its contract: the tests are those of the definitions.
use Rattle.std.proofs.Common.{rules, tests, arith, ◌∙◌}
use borrow.Author.Tests.{lt-ltb, le-ltb}
use Rattle.std.proofs.lemmas.Iterator.{YieldsList-from_slice}
use Rattle.std.proofs.lemmas.Iterator.Search.{any_from_yields_List}
use Rattle.strip.specs.Strip.{side_above, count_above}
use Rattle.strip.proofs.Orders.{any_passes}
use Rattle.strip.proofs.is_above.Goals as goal

pub returns-then-side-gt17 : goal.returns-then-side-gt17
unfolding side_above
returns-then-side-gt17 c = simp (lt-ltb 17 c.args.side c.if-side-gt17.true)

pub returns-else-side-gt17 : goal.returns-else-side-gt17
unfolding side_above count_above
returns-else-side-gt17 c =
    simp (le-ltb 17 c.args.side (omega (arith, c.if-side-gt17.false)))
    (any_from_yields_List count_above _ _ c.any.result c.any.ensures.ran (YieldsList-from_slice _ c.iter.ensures.rest)
    (λ x b q k. search (rules, tests)) ∙
    any_passes count_above c.args.counts.now)
