-- `is_accepted` meets its contract: the two tests are the definition's.
use mathlib.Core.Path.{sym, ap, ◌∙◌}
use mathlib.Core.Bool.{◌&&◌}
use lib.Ieee.{of_bits, lt}
use Rattle.hsv.specs.Hue.{six32, hue_in_range}
use Rattle.hsv.proofs.is_accepted.Goals as goal

pub returns-else-h : goal.returns-else-h
unfolding of_bits hue_in_range
returns-else-h c = c.if-h.false ∙ ap (λ b. b && lt c.args.h six32) (sym c.if-h.false)

pub returns-then-h : goal.returns-then-h
unfolding of_bits hue_in_range
returns-then-h c = ap (λ b. b && lt c.args.h six32) (sym c.if-h.true)
