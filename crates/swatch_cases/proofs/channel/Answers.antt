-- `channel` meets its contract: the language's NaN is the one NaN.
use mathlib.Core.Path.{◌≡◌, refl, sym, ◌∙◌}
use lib.Ieee.{nan, binary32, of_bits}
use Rattle.swatch_cases.proofs.Nan.{pattern_nan, pattern_no_nan}
use Rattle.swatch_cases.proofs.channel.Goals as goal

nan_is : of_bits binary32 0x7fc0_0000 ≡ nan
unfolding of_bits
nan_is = refl

pub returns-then-bits-gt2139095040 : goal.returns-then-bits-gt2139095040
returns-then-bits-gt2139095040 c = nan_is ∙ sym (pattern_nan c.args.bits c.if-bits-gt2139095040.true)

pub float_from_bits-result : goal.float_from_bits-result
float_from_bits-result c = pattern_no_nan c.args.bits c.if-bits-gt2139095040.false
