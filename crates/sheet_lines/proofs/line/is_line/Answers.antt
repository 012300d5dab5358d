-- `is_line` meets its contract: without a line feed among the bytes of the fields, the next byte decides.
use Rattle.std.proofs.Common.{sym, ◌∙◌, ap, not}
use mathlib.Core.Bool.{not-not, true≢false}
use borrow.Author.Tests.{le-ltb}
use Rattle.sheet_lines.proofs.Lines.{short_rest, broken_line, byte_decides}
use Rattle.sheet_lines.proofs.line.is_line.Goals as goal
use Rattle.sheet_lines.proofs.line.is_line.Goals.{then-last-rest, else-last-rest}

pub returns-then-not-contains : goal.returns-then-not-contains
returns-then-not-contains c =
    let a = c.args in
    elim c.if-last-rest.branch [
      | then-last-rest w ↦ sym
          (ap not (byte_decides a.fields a.rest.now w.if-last-rest.true
          (sym w.contains.ensures.value ∙ sym (not-not _) ∙ ap not (sym w.value-is ∙ c.if-not-contains.true))) ∙ not-not _)
      | else-last-rest w ↦ absurd (true≢false (sym c.if-not-contains.true ∙ w.value-is ∙ le-ltb _ _ w.if-last-rest.false))
    ]

pub returns-else-not-contains : goal.returns-else-not-contains
returns-else-not-contains c =
    let a = c.args in
    elim c.if-last-rest.branch [
      | then-last-rest w ↦ c.if-not-contains.false ∙ sym (ap not (broken_line a.fields a.rest.now
          (sym w.contains.ensures.value ∙ sym (not-not _) ∙ ap not (sym w.value-is ∙ c.if-not-contains.false))))
      | else-last-rest w ↦ c.if-not-contains.false ∙ sym (ap not (short_rest a.fields a.rest.now w.if-last-rest.false))
    ]
