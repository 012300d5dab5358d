-- `read_curve` meets its contract: the coordinates before field k + 2 are bytes and stand in their places.
use Rattle.std.proofs.Common.{◌≡◌, ℕ, ◌+◌, ◌≤◌, ◌<◌, get_or, Some}
use Rattle.sheet.specs.Line.{field}
use Rattle.sheet_lines.specs.Read.{read_field}
use Rattle.sheet_lines.proofs.line.read_curve.Given as goal

abbrev pub invariant-loop-k : goal.invariant-loop-k
invariant-loop-k l =
    (j : ℕ) → j < l.k → (get_or l.c-items j 0 ≤ 255) × (read_field (field l.line (j + 2)) ≡ Some (get_or l.c-items j 0))
