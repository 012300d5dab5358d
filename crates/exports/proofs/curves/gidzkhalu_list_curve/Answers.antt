-- `gidzkhalu_list_curve` meets its contract: the record's length is judged, then the call.
use Rattle.std.proofs.Common.{rules}
use mathlib.Core.Path.{◌≡◌, refl, ap}
use mathlib.Core.List.{List}
use Prim.Native.Nat.{ℕ}
use lib.ListN.{length}
use Rattle.drawing.specs.declared.Choice.TheVariants.{Over}
use Rattle.drawing.specs.Object.{curve}
use Rattle.drawing.specs.Drawing.{listing_of}
use Rattle.exports.proofs.Small.{reads}
use Rattle.exports.proofs.Calls.{wrong_listing, right_listing}
use Rattle.exports.proofs.curves.gidzkhalu_list_curve.Goals as goal

pub returns-in_default : goal.returns-in_default
returns-in_default c =
    wrong_listing 12 c.args.points.now (listing_of c.args.side (curve c.args.steps c.args.points.now 0 Over)) _
    (search rules) (reads c.refused.ensures)

pub returns : goal.returns
returns c =
    let same : ◌≡◌ {A = List ℕ} c.in-Ok.points c.args.points.now = search rules in
    right_listing 12 c.args.points.now _ _ _ (search rules) (ap (listing_of _) (rw same refl)) c.list_curve.ensures
    (reads c.signed.ensures)
