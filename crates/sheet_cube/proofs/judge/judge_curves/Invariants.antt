-- `judge_curves` meets its contract: every line before the present one is accepted.
use Rattle.std.proofs.Common.{◌≡◌, ◌+◌, length}
use Rattle.std.specs.Slice.Iter.{chunks_rest, chunks_size}
use Rattle.sheet_cube.proofs.Chunks.{AtLine}
use Rattle.sheet_cube.proofs.judge.judge_curves.Given as goal

abbrev pub invariant-loop-rest : goal.invariant-loop-rest
invariant-loop-rest l =
    AtLine l.input l.side (length l.yielded) (chunks_rest l.rest-iterator) × (chunks_size l.rest-iterator ≡ 71) ×
    (l.line ≡ length l.yielded + 2)
