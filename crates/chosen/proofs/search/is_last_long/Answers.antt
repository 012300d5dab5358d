-- `is_last_long` meets its contract: the first difference of the points in reverse is tested.
use mathlib.Core.Path.{◌∙◌, ap, ap₂}
use native.Mathlib.Omega.{arith}
use lib.Dec.{lit<}
use Rattle.cubic.specs.Differences.{differences_at}
use Rattle.cubic.specs.Axis.{long_of}
use Rattle.cubic.proofs.Fits.{held, read}
use Rattle.scan.specs.Column.{AtBytes}
use Rattle.scan.proofs.Column.{bytes_room}
use Rattle.curve.specs.declared.Curve.{Curve}
use Rattle.curve.specs.Machine.{InLimits}
use Rattle.curve.proofs.Along.{scale_held}
use Rattle.chosen.proofs.Last.{last_long}
use Rattle.chosen.proofs.search.is_last_long.Goals as goal

pub is_long-requires : goal.is_long-requires
is_long-requires c =
    let h = scale_held c.requires c.cubed.ensures in
    rw h.same h.size

-- The four coordinates, from the last point to the first.
abbrev at_bytes : {curve : Curve} → InLimits curve → AtBytes curve.points curve.steps 9 6 3 0
at_bytes l = record {
  count = l.count_most;
  there = rw l.twelve (omega arith, omega arith, omega arith, omega arith);
  coordinates = l.coordinates;
}

pub returns : goal.returns
unfolding differences_at
returns c =
    let room = bytes_room (at_bytes c.requires) 0 (omega arith) in
    c.is_long.ensures ∙
    ap₂ long_of (scale_held c.requires c.cubed.ensures).same
    (ap (λ back. read back.d1) c.start_through-back.ensures ∙ (held room.d1 (lit< tt)).same) ∙
    last_long c.args.curve c.requires.count_least
