-- `gidzkhalu_list_part` meets its contract: the call, with its number signed.
use Rattle.exports.proofs.Small.{reads}
use Rattle.exports.proofs.Text.{part_small, small_written, written_signed}
use Rattle.exports.proofs.listings.gidzkhalu_list_part.Goals as goal

pub written-requires : goal.written-requires
written-requires c =
    let w = c.list_part in
    small_written w.ensures (part_small _ _ _ _ _)

pub returns : goal.returns
returns c =
    written_signed c.list_part.ensures (reads c.written.ensures)
