-- `print_planes` meets its contract: each write is the listing of some planes, which the text holds.
use Rattle.std.proofs.Common.{◌≡◌, ◌-◌, ◌≤◌, length}
use Rattle.sheet_program.proofs.print.print_planes.Given as goal

abbrev pub invariant-loop-z : goal.invariant-loop-z
invariant-loop-z l = (l.z ≤ l.cube.side) × (length l.text ≡ length l.initial.text)

abbrev pub decreases-loop-z : goal.decreases-loop-z
decreases-loop-z l = l.cube.side - l.z
