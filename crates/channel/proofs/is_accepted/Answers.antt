-- `is_accepted` meets its contract: the two tests are the definition's.
use mathlib.Core.Path.{sym, ap, ◌∙◌}
use mathlib.Core.Bool.{◌&&◌}
use lib.Ieee.{of_bits, le}
use Rattle.channel.specs.Channel.{one32, in_range}
use Rattle.channel.proofs.is_accepted.Goals as goal

pub returns-else-v : goal.returns-else-v
unfolding of_bits in_range
returns-else-v c = c.if-v.false ∙ ap (λ b. b && le c.args.v one32) (sym c.if-v.false)

pub returns-then-v : goal.returns-then-v
unfolding of_bits in_range
returns-then-v c = ap (λ b. b && le c.args.v one32) (sym c.if-v.true)
