-- `list_samples` meets its contract: a drawable curve is a row that the walker walks.
use borrow.Author.Rules.{rules}
use mathlib.Core.Path.{◌≡◌, sym, ◌∙◌}
use Prim.Native.Nat.{ℕ, suc, ◌*◌, ◌≤◌}
use native.Mathlib.Omega.{arith}
use lib.ListN.{length}
use Rattle.decide.specs.Refusal.{accepted}
use Rattle.drawing.specs.Refusals.{Drawable, list_verdict, sample_count}
use Rattle.drawing.proofs.Accepted.{list_accepted}
use Rattle.scan.specs.Walker.{list_strides}
use Rattle.scan.proofs.Samples.{list_small, row_on_list}
use Rattle.curve.specs.declared.Curve.{Curve}
use Rattle.curve.specs.Curve.{curve_of}
use Rattle.curve.specs.Machine.{InLimits}
use Rattle.curve.proofs.Along.{drawable_in_limits, scale_held}
use Rattle.curve.proofs.Begin.{start_at, list_row, listed_row}
use Rattle.curve.proofs.samples.list_samples.Goals as goal

-- There is room for the samples' bytes.
room : (c : Curve) {len : ℕ} → 3 * sample_count (curve_of c).counts ≤ len → 3 * suc c.steps ≤ len
unfolding sample_count
room c h = omega arith

module _ (S : ℕ) (c : Curve) (twelve : length c.points ≡ 12) (len : ℕ) (accept : list_verdict S len (curve_of c) ≡ accepted) where
  drawable : Drawable S (curve_of c)
  drawable = ((list_accepted S (curve_of c) _).0 accept).0

  limits : InLimits c
  limits = drawable_in_limits c twelve drawable

pub start_walker-start-requires : goal.start_walker-start-requires
start_walker-start-requires c = record {
  in_limits = limits c.args.side c.args.curve (search rules) (length c.args.list.now) c.requires;
  small_strides = list_small;
}

pub cubed-scale-requires : goal.cubed-scale-requires
cubed-scale-requires c =
    (limits c.args.side c.args.curve (search rules) (length c.args.list.now) c.requires).count_most

pub list_row-requires : goal.list_row-requires
list_row-requires c =
    let twelve : length c.args.curve.points ≡ 12 = search rules in
    let w = (list_accepted c.args.side (curve_of c.args.curve) _).0 c.requires in
    rw ((scale_held (drawable_in_limits c.args.curve twelve w.0) c.cubed-scale.ensures).same, c.start_walker-start.ensures)
    (row_on_list (list_row c.args.curve twelve w.0) (start_at c.args.curve w.0 list_strides) (room c.args.curve w.1))

pub returns : goal.returns
returns c =
    let twelve : length c.args.curve.points ≡ 12 = search rules in
    let d = drawable c.args.side c.args.curve twelve (length c.args.list.now) c.requires in
    rw ((scale_held (drawable_in_limits c.args.curve twelve d) c.cubed-scale.ensures).same, c.start_walker-start.ensures)
    at c.list_row.ensures ∙
    sym (listed_row c.args.curve twelve d c.args.list.now c.requires)
