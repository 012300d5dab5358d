-- `some_out` meets its contract: the test of each count is that of the definition.
use Rattle.std.proofs.Common.{rules, tests, ◌∙◌}
use Rattle.std.proofs.lemmas.Iterator.{YieldsList-from_slice}
use Rattle.std.proofs.lemmas.Iterator.Search.{any_from_yields_List}
use Rattle.drawing.specs.Refusals.{count_out}
use Rattle.strip.proofs.Orders.{any_passes}
use Rattle.strip.proofs.some_out.Goals as goal

pub returns : goal.returns
returns c =
    any_from_yields_List (count_out c.args.most) _ _ c.any.result c.any.ensures.ran (YieldsList-from_slice _ c.iter.ensures.rest)
    (λ x b q k. search rules) ∙
    any_passes (count_out c.args.most) c.args.counts.now
