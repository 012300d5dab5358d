-- `is_long` meets its contract: 2N fits, and the tests are those of the definition.
use lib.Dec.{lit<}
use mir.Facts.{to_z-of_z}
use Rattle.cubic.specs.Axis.{long_of}
use Rattle.cubic.proofs.Fits.{literal, held, add, sub}
use Rattle.cubic.proofs.long.is_long.Goals as goal

pub returns-then-d1-two : goal.returns-then-d1-two
unfolding long_of
returns-then-d1-two c =
    let n = held c.requires (lit< tt) in
    let up = rw ((add n n (lit< tt)).same, to_z-of_z c.ranges.d1) at c.if-d1-two.true in
    rw ((add n n (lit< tt)).same, to_z-of_z c.ranges.d1, up)

pub returns-else-d1-two : goal.returns-else-d1-two
unfolding long_of
returns-else-d1-two c =
    let n = held c.requires (lit< tt) in
    let two = add n n (lit< tt) in
    let low = sub (literal 0) two (lit< tt) in
    let not-up = rw (two.same, to_z-of_z c.ranges.d1) at c.if-d1-two.false in
    rw (low.same, to_z-of_z c.ranges.d1, not-up)
