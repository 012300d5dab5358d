-- `r_of` meets its contract: the operations are the definition's.
use mathlib.Core.Path.{refl}
use lib.Ieee.{of_bits}
use Rattle.hsv.proofs.r_of.Goals as goal

pub returns : goal.returns
unfolding of_bits
returns c = refl
