-- `check` of hue, saturation and value meets its contract: the hue's number, else the saturation's, else the value's.
use mathlib.Core.Bool.{Bool, true}
use mathlib.Core.Path.{◌≡◌, refl, sym, ap, ◌∙◌, subst}
use lib.Dec.{T}
use lib.Ieee.{Float}
use Rattle.channel.proofs.PassedUp.{passed_up}
use Rattle.decide.specs.Refusal.{first_that, or_else, accepted}
use Rattle.decide.specs.Verdict.{verdict_of}
use Rattle.decide.proofs.FirstThat.{first_append_three}
use Rattle.channel.specs.Channel.{channel_refusals}
use Rattle.hsv.specs.declared.Hsv.{Hsv}
use Rattle.hsv.specs.Hue.{hue_in_range, hue_refusals, hsv_refusals}
use Rattle.hsv.proofs.InRange.{hue_accepted}
use Rattle.hsv.proofs.Hsv.check.Goals as goal

-- The first number of the hue, or else of the saturation, or else of the value.
in_turn : (w : Hsv) → or_else (first_that (hue_refusals w.hue))
    (or_else (first_that (channel_refusals w.saturation)) (first_that (channel_refusals w.value)))
    ≡ first_that (hsv_refusals w)
in_turn w = sym (first_append_three (hue_refusals w.hue) (channel_refusals w.saturation) (channel_refusals w.value))

-- Past the first test the hue is accepted.
hue : (h : Float) {r : Bool} → r ≡ true → r ≡ hue_in_range h → first_that (hue_refusals h) ≡ accepted
hue h t e = hue_accepted h (subst T (sym t ∙ e) tt)

pub returns-then-not-is_accepted : goal.returns-then-not-is_accepted
returns-then-not-is_accepted c = rw (← in_turn c.args.self, c.refusal.ensures) refl

pub returns-in_err-check : goal.returns-in_err-check
returns-in_err-check c =
    rw (← in_turn c.args.self, hue c.args.self.hue c.if-not-is_accepted.false c.is_accepted.ensures, ← c.in_err-check.ensures)
    (ap verdict_of (passed_up _ _ c.from_residual.ensures.1))

pub returns : goal.returns
returns c =
    rw (← in_turn c.args.self, hue c.args.self.hue c.if-not-is_accepted.false c.is_accepted.ensures, ← c.in_ok-check.ensures)
    c.check-2.ensures
