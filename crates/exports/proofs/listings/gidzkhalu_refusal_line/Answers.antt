-- `gidzkhalu_refusal_line` meets its contract: the call, with its number signed.
use Rattle.exports.proofs.Small.{reads}
use Rattle.exports.proofs.Text.{line_small, small_written, written_signed}
use Rattle.exports.proofs.listings.gidzkhalu_refusal_line.Goals as goal

pub written-requires : goal.written-requires
written-requires c =
    let w = c.refusal_line in
    small_written w.ensures (λ _. line_small _ _)

pub returns : goal.returns
returns c =
    written_signed c.refusal_line.ensures (reads c.written.ensures)
