-- `gidzkhalu_totals` meets its contract: the call, with its number signed.
use Rattle.exports.proofs.Small.{reads}
use Rattle.exports.proofs.Text.{totals_small, small_written, written_signed}
use Rattle.exports.proofs.listings.gidzkhalu_totals.Goals as goal

pub written-requires : goal.written-requires
written-requires c =
    let w = c.write_totals in
    small_written w.ensures (λ _. totals_small _ _)

pub returns : goal.returns
returns c =
    written_signed c.write_totals.ensures (reads c.written.ensures)
