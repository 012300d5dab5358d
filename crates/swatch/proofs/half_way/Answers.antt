-- `half_way` meets its contract: the first swatch's number, else the second's, and accepted swatches are mixed.
use mathlib.Core.Path.{sym, ◌∙◌, subst}
use Rattle.channel.proofs.PassedUp.{passed_up}
use Rattle.decide.proofs.FirstThat.{answer_refused, answer_given, append_refused, append_passes}
use Rattle.swatch.specs.Swatch.{swatch_refusals}
use Rattle.swatch.specs.HalfWay.{HalfWaySays}
use Rattle.swatch.proofs.Range.{given_in_range}
use Rattle.swatch.proofs.half_way.Goals as goal

pub returns-in_err-first : goal.returns-in_err-first
returns-in_err-first c =
    let s = c.args in
    subst (HalfWaySays s.a s.b) (sym (passed_up _ _ c.from_residual.ensures.1))
    (append_refused (swatch_refusals s.a) (swatch_refusals s.b) (answer_refused _ _ c.in_err-first.ensures))

pub returns-in_err-second : goal.returns-in_err-second
returns-in_err-second c =
    let s = c.args in
    subst (HalfWaySays s.a s.b) (sym (passed_up _ _ c.from_residual-in_err-second.ensures.1))
    (append_passes (swatch_refusals s.a) (swatch_refusals s.b) (answer_given _ _ c.in_ok-first.ensures).0
    ∙ answer_refused _ _ c.in_err-second.ensures)

pub half_way-requires : goal.half_way-requires
half_way-requires c =
    record {
      t = (given_in_range c.args.a c.in_ok-first.ensures).red;
      t_2 = (given_in_range c.args.b c.in_ok-second.ensures).red;
    }

pub half_way-requires-2 : goal.half_way-requires-2
half_way-requires-2 c =
    record {
      t = (given_in_range c.args.a c.in_ok-first.ensures).green;
      t_2 = (given_in_range c.args.b c.in_ok-second.ensures).green;
    }

pub half_way-requires-3 : goal.half_way-requires-3
half_way-requires-3 c =
    record {
      t = (given_in_range c.args.a c.in_ok-first.ensures).blue;
      t_2 = (given_in_range c.args.b c.in_ok-second.ensures).blue;
    }

pub returns : goal.returns
returns c =
    let s = c.args in
    let p = answer_given _ _ c.in_ok-first.ensures in
    let q = answer_given _ _ c.in_ok-second.ensures in
    record {
      no_number = append_passes (swatch_refusals s.a) (swatch_refusals s.b) p.0 ∙ q.0;
      mixed =
          rw (← p.1, ← q.1)
          (record { red = c.half_way.ensures; green = c.half_way-2.ensures; blue = c.half_way-3.ensures });
    }
