-- `refusal` meets its contract: 31 is tried first, and a finite channel that is not accepted is outside.
use mathlib.Core.Path.{sym, ◌∙◌}
use mathlib.Core.List.{[], ◌∷◌}
use Rattle.decide.specs.Refusal.{◌when◌}
use Rattle.decide.proofs.FirstThat.{first_applies, first_passes}
use Rattle.channel.specs.Channel.{infinite_or_nan, outside}
use Rattle.channel.proofs.Range.{no_finite, refused_outside}
use Rattle.channel.proofs.refusal.Goals as goal

pub returns-then-is_finite : goal.returns-then-is_finite
returns-then-is_finite c =
    let v = c.args.v in
    let e = no_finite v (sym c.is_finite.ensures.value ∙ c.if-is_finite.true) in
    first_passes 31 (infinite_or_nan v) (32 when outside v ∷ []) e
    ∙ first_applies 32 (outside v) [] (refused_outside v e c.requires)

pub returns-else-is_finite : goal.returns-else-is_finite
returns-else-is_finite c =
    let v = c.args.v in
    let e = no_finite v (sym c.is_finite.ensures.value ∙ c.if-is_finite.false) in
    first_applies 31 (infinite_or_nan v) (32 when outside v ∷ []) e
