-- `to_cell` meets its contract: the side is tried first, then the swatch, and an accepted swatch has its cell.
use mathlib.Core.Path.{◌≡◌, sym, ap, ◌∙◌, subst}
use mathlib.Core.Bool.{true}
use Prim.Native.Nat.{ℕ, ◌≤◌}
use borrow.Author.Tests.{lt-ltb, le-ltb}
use lib.Ieee.{Float}
use Rattle.channel.proofs.PassedUp.{passed_up}
use Rattle.decide.specs.Refusal.{first_that}
use Rattle.decide.proofs.FirstThat.{answer_refused, answer_given, first_applies, first_passes}
use Rattle.channel.specs.Channel.{channel_refusals}
use Rattle.channel.proofs.Range.{channel_in_range}
use Rattle.swatch.specs.declared.Swatch.{Swatch}
use Rattle.swatch.specs.declared.Swatch.TheVariants.{Grey}
use Rattle.swatch.specs.Swatch.{swatch_refusals}
use Rattle.cube.specs.Cube.{side_out}
use Rattle.swatch.specs.ToCell.{cell_refusals, CellSays}
use Rattle.swatch.proofs.Range.{grey_first, given_in_range}
use Rattle.swatch.proofs.to_cell.Goals as goal
use Rattle.swatch.proofs.to_cell.Goals.{Joined-then-side-lt2, then-side-lt2-via-then-side-lt2, then-side-lt2-via-else-side-lt2+then-side-gt64}

-- A side outside 2 to 64.
outside : (c : Joined-then-side-lt2) → side_out c.args.side ≡ true
unfolding side_out
outside c =
    let side = c.args.side in
    elim c.then-side-lt2.branch [
      | then-side-lt2-via-then-side-lt2 w ↦ rw (lt-ltb side 2 w.if-side-lt2.true)
      | then-side-lt2-via-else-side-lt2+then-side-gt64 w ↦ rw (le-ltb side 2 w.if-side-lt2.false, lt-ltb 64 side w.if-side-gt64.true)
    ]

pub returns-then-side-lt2 : goal.returns-then-side-lt2
returns-then-side-lt2 c = first_applies 11 (side_out c.args.side) (swatch_refusals c.args.swatch) (outside c)

-- Past the side, the number is the swatch's.
past : (side : ℕ) (swatch : Swatch) → 2 ≤ side → side ≤ 64
    → first_that (cell_refusals side swatch) ≡ first_that (swatch_refusals swatch)
unfolding side_out
past side swatch l g =
    first_passes 11 (side_out side) (swatch_refusals swatch)
    (rw (le-ltb side 2 l, le-ltb 64 side g))

-- Past the side, the number is the swatch's, and a grey's is that of its channel.
grey_past : (side : ℕ) (swatch : Swatch) (g : Float) → 2 ≤ side → side ≤ 64 → swatch ≡ Grey g
    → first_that (cell_refusals side swatch) ≡ first_that (channel_refusals g)
grey_past side swatch g l h e = past side swatch l h ∙ ap (λ w. first_that (swatch_refusals w)) e ∙ grey_first g

pub returns-in_err-check : goal.returns-in_err-check
returns-in_err-check c =
    let s = c.args in
    subst (CellSays s.side s.swatch) (sym (passed_up _ _ c.from_residual.ensures.1))
    (grey_past s.side s.swatch c.in-Grey.grey c.if-side-lt2.false c.if-side-gt64.false c.in-Grey.is ∙ sym c.in_err-check.ensures)

pub coordinate-v-requires-clause-t : goal.coordinate-v-requires-clause-t
coordinate-v-requires-clause-t c = channel_in_range c.in-Grey.grey (sym c.in_ok-check.ensures)

pub returns-in-Grey : goal.returns-in-Grey
returns-in-Grey c =
    let s = c.args in
    let e = c.coordinate-v.ensures in
    record {
      no_number =
          grey_past s.side s.swatch c.in-Grey.grey c.if-side-lt2.false c.if-side-gt64.false c.in-Grey.is
          ∙ sym c.in_ok-check.ensures;
      cell = rw c.in-Grey.is (record { x = e; y = e; z = e });
    }

pub returns-in_err-c : goal.returns-in_err-c
returns-in_err-c c =
    let s = c.args in
    subst (CellSays s.side s.swatch) (sym (passed_up _ _ c.from_residual-in_err-c.ensures.1))
    (past s.side s.swatch c.if-side-lt2.false c.if-side-gt64.false ∙ answer_refused _ _ c.in_err-c.ensures)

pub coordinate-requires : goal.coordinate-requires
coordinate-requires c =
    record {
      le_side = (c.if-side-lt2.false, c.if-side-gt64.false);
      t = (given_in_range c.args.swatch c.in_ok-c.ensures).red;
    }

pub coordinate-requires-2 : goal.coordinate-requires-2
coordinate-requires-2 c =
    record {
      le_side = (c.if-side-lt2.false, c.if-side-gt64.false);
      t = (given_in_range c.args.swatch c.in_ok-c.ensures).green;
    }

pub coordinate-requires-3 : goal.coordinate-requires-3
coordinate-requires-3 c =
    record {
      le_side = (c.if-side-lt2.false, c.if-side-gt64.false);
      t = (given_in_range c.args.swatch c.in_ok-c.ensures).blue;
    }

pub returns : goal.returns
returns c =
    let s = c.args in
    let p = answer_given _ _ c.in_ok-c.ensures in
    record {
      no_number = past s.side s.swatch c.if-side-lt2.false c.if-side-gt64.false ∙ p.0;
      cell =
          rw (← p.1)
          (record { x = c.coordinate.ensures; y = c.coordinate-2.ensures; z = c.coordinate-3.ensures });
    }
