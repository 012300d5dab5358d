-- `channels` of a swatch meets its contract: a grey has the refusals of its one channel, and stands for three equal ones.
use mathlib.Core.Path.{refl, sym, ap}
use Rattle.channel.proofs.PassedUp.{passed_up}
use Rattle.decide.specs.Verdict.{outcome_of}
use Rattle.hsv.proofs.InRange.{hsv_in_range}
use Rattle.swatch.proofs.Range.{grey_first}
use Rattle.swatch.proofs.Swatch.channels.Goals as goal

pub returns-in_err-check-in-Grey : goal.returns-in_err-check-in-Grey
returns-in_err-check-in-Grey c =
    rw (c.in-Grey.is, grey_first c.in-Grey.g, ← c.in_err-check-in-Grey.ensures)
    (ap outcome_of (passed_up _ _ c.from_residual-in_err-check-in-Grey.ensures.1))

pub channels-requires : goal.channels-requires
channels-requires c = (hsv_in_range c.in-Hue.w (sym c.in_ok-check-in-Hue.ensures)).hue

pub returns-in_ok-check-in-Grey : goal.returns-in_ok-check-in-Grey
returns-in_ok-check-in-Grey c =
    rw (c.in-Grey.is, grey_first c.in-Grey.g, ← c.in_ok-check-in-Grey.ensures, c.new.ensures) refl
