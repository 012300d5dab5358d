-- `bits` meets its contract: a NaN is the one NaN.
use mathlib.Core.Path.{sym, ap, ◌∙◌}
use lib.Ieee.{binary32, to_bits}
use Rattle.swatch_cases.proofs.Nan.{is_nan_lem}
use Rattle.swatch_cases.proofs.bits.Goals as goal

pub returns-then-is_nan : goal.returns-then-is_nan
unfolding to_bits
returns-then-is_nan c = sym (ap (to_bits binary32) (is_nan_lem c.args.v (sym c.is_nan.ensures.value ∙ c.if-is_nan.true)))
