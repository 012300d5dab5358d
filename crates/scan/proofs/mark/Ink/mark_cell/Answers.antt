-- `mark_cell` meets its contract: over, the mark is written; under, it is written where the byte was 0.
use mathlib.Core.Path.{sym, ◌∙◌, ap}
use mathlib.Core.List.{List}
use Prim.Native.Nat.{ℕ}
use lib.ListN.{get_or, set}
use lib.Seq.{set-get_or}
use Rattle.drawing.specs.declared.Choice.{Choice}
use Rattle.drawing.specs.Drawing.{written}
use Rattle.drawing.proofs.Marked.{over_writes, under_fills, under_keeps}
use Rattle.scan.proofs.mark.Ink.mark_cell.Goals as goal
use Rattle.scan.proofs.mark.Ink.mark_cell.Goals.{in-Over, in-Under+then-held-eq0, in-Under+else-held-eq0}

pub returns-clause-grid_after : goal.returns-clause-grid_after
returns-clause-grid_after c =
    let g = c.args.grid.now in
    let at = c.args.at in
    let mark = c.args.self.mark in
    let by : Choice → List ℕ = λ k. set g at (written k mark (get_or g at 0)) in
    elim c.match-self.branch [
      | in-Over w ↦ w.grid-is ∙ ap (set g at) (sym (over_writes mark (get_or g at 0))) ∙ sym (ap by w.in-Over.is)
      | in-Under+then-held-eq0 w ↦
          w.grid-is ∙ ap (set g at) (sym (under_fills mark w.if-held-eq0.true)) ∙ sym (ap by w.in-Under.is)
      | in-Under+else-held-eq0 w ↦
          w.grid-is ∙ sym (set-get_or g at 0) ∙ ap (set g at) (sym (under_keeps mark w.if-held-eq0.false)) ∙
          sym (ap by w.in-Under.is)
    ]
