-- `refusal` meets its contract: 31 is tried first, and a finite hue that is not accepted is out of range.
use mathlib.Core.Path.{sym, ap, ◌∙◌}
use mathlib.Core.Bool.{not}
use mathlib.Core.List.{[], ◌∷◌}
use Rattle.decide.specs.Refusal.{◌when◌}
use Rattle.decide.proofs.FirstThat.{first_applies, first_passes}
use Rattle.channel.specs.Channel.{infinite_or_nan}
use Rattle.channel.proofs.Range.{no_finite}
use Rattle.hsv.specs.Hue.{hue_in_range}
use Rattle.hsv.proofs.refusal.Goals as goal

pub returns-then-is_finite : goal.returns-then-is_finite
returns-then-is_finite c =
    let h = c.args.h in
    let e = no_finite h (sym c.is_finite.ensures.value ∙ c.if-is_finite.true) in
    first_passes 31 (infinite_or_nan h) (33 when not (hue_in_range h) ∷ []) e
    ∙ first_applies 33 (not (hue_in_range h)) [] (ap not c.requires)

pub returns-else-is_finite : goal.returns-else-is_finite
returns-else-is_finite c =
    let h = c.args.h in
    let e = no_finite h (sym c.is_finite.ensures.value ∙ c.if-is_finite.false) in
    first_applies 31 (infinite_or_nan h) (33 when not (hue_in_range h) ∷ []) e
