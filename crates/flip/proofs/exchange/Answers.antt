-- `exchange` meets its contract: its numbers are those of the definition.
use borrow.Author.Rules.{rules}
use mathlib.Core.Path.{◌≡◌, refl}
use lib.ListN.{length}
use Rattle.decide.specs.Some.{some_of}
use Rattle.flip.specs.Flip.{no_point, exchanged}
use Rattle.flip.proofs.exchange.Goals as goal

pub put_points-requires : goal.put_points-requires
unfolding some_of no_point
put_points-requires c =
    let all_points : length c.args.points.now ≡ 48 = search rules in
    record { to_len = c.requires; numbers_value = rw all_points refl }

pub returns : goal.returns
unfolding exchanged
returns c = c.put_points.ensures
