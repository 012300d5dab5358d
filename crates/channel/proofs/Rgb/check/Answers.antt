-- `check` of three channels meets its contract: accepted ones have no refusal, and others are tried in turn.
use mathlib.Core.Path.{◌≡◌, sym, ap, ◌∙◌}
use Rattle.channel.proofs.PassedUp.{passed_up}
use Rattle.decide.specs.Refusal.{first_that, or_else}
use Rattle.decide.specs.Verdict.{verdict_of}
use Rattle.decide.proofs.FirstThat.{first_append_three}
use Rattle.channel.specs.declared.Rgb.{Rgb}
use Rattle.channel.specs.Channel.{channel_refusals}
use Rattle.channel.specs.Rgb.{rgb_refusals}
use Rattle.channel.proofs.Range.{rgb_accepted}
use Rattle.channel.proofs.Rgb.check.Goals as goal

pub returns-then-is_accepted : goal.returns-then-is_accepted
returns-then-is_accepted c = sym (rgb_accepted c.args.self (sym c.is_accepted.ensures ∙ c.if-is_accepted.true))

-- The first number of red, or else of green, or else of blue.
in_turn : (c : Rgb) → or_else (first_that (channel_refusals c.red))
    (or_else (first_that (channel_refusals c.green)) (first_that (channel_refusals c.blue)))
    ≡ first_that (rgb_refusals c)
in_turn c = sym (first_append_three (channel_refusals c.red) (channel_refusals c.green) (channel_refusals c.blue))

pub returns-in_err-check : goal.returns-in_err-check
returns-in_err-check c = rw (← in_turn c.args.self, ← c.in_err-check.ensures) (ap verdict_of (passed_up _ _ c.from_residual.ensures.1))

pub returns-in_err-check-2 : goal.returns-in_err-check-2
returns-in_err-check-2 c =
    rw (← in_turn c.args.self, ← c.in_ok-check.ensures, ← c.in_err-check-2.ensures)
    (ap verdict_of (passed_up _ _ c.from_residual-in_err-check-2.ensures.1))

pub returns : goal.returns
returns c = rw (← in_turn c.args.self, ← c.in_ok-check.ensures, ← c.in_ok-check-2.ensures) c.check-3.ensures
