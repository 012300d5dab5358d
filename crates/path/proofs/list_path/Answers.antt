-- `list_path` meets its contract: the verdict is the check's and then that of the list's length, and an accepted path is listed.
use Rattle.std.proofs.Common.{rules, refl, ◌≡◌, ℕ, ◌*◌, ◌<◌, ◌≤◌, false, ltb, [], length, sym, ap, ◌∙◌, arith, le-ltb}
use Rattle.decide.specs.Refusal.{accepted, refused, gives}
use Rattle.decide.proofs.Truth.{less, true_of}
use Rattle.decide.proofs.FirstThat.{append_refused, append_passes, first_applies, first_passes, first_empty, answer_given, answer_refused}
use Rattle.drawing.specs.Object.{Object}
use Rattle.drawing.specs.Refusals.{order, check_verdict}
use Rattle.drawing.proofs.Listed.{listed_accepted}
use Rattle.scan.proofs.Orders.{lists_refused}
use Rattle.curve.specs.declared.Curve.{Curve}
use Rattle.curve.specs.Curve.{curve_of}
use Rattle.path.specs.Path.{path_length, path_list_verdict, path_listing}
use Rattle.path.proofs.OfCurve.{path_at_most}
use Rattle.path.proofs.list_path.Goals as goal
use Rattle.path.proofs.list_path.Goals.{else-list-most-via-then-list-most+else-list-count_cells, else-list-most-via-else-list-most}

-- The check comes first, then the list's length.
module _ (S : ℕ) (o : Object) (len : ℕ) where
  check_refused : {k : ℕ} → check_verdict S o ≡ refused k → path_list_verdict S len o ≡ refused k
  unfolding check_verdict path_list_verdict
  check_refused e = append_refused (order S o false false false) _ e

  module _ (e : check_verdict S o ≡ accepted) where
    too_short : len < 3 * path_length o → path_list_verdict S len o ≡ refused 22
    unfolding check_verdict path_list_verdict
    too_short h =
        append_passes (order S o false false false) _ e ∙
        first_applies 22 (ltb len (3 * path_length o)) [] (true_of _ ((less len (3 * path_length o)).1 h))

    long_enough : 3 * path_length o ≤ len → path_list_verdict S len o ≡ accepted
    unfolding check_verdict path_list_verdict
    long_enough h =
        append_passes (order S o false false false) _ e ∙
        first_passes 22 (ltb len (3 * path_length o)) [] (le-ltb len (3 * path_length o) h) ∙ first_empty

pub count_cells-requires : goal.count_cells-requires
count_cells-requires c = (answer_given _ _ c.in_ok-check_curve.ensures).0

pub returns-then-list-count_cells : goal.returns-then-list-count_cells
returns-then-list-count_cells c =
    lists_refused (path_listing c.args.side (curve_of c.args.curve)) c.args.list.now
    (too_short _ _ _ (answer_given _ _ c.in_ok-check_curve.ensures).0 (rw c.count_cells.ensures at c.if-list-count_cells.true)) refl

pub list_cells-requires : goal.list_cells-requires
list_cells-requires c = record {
  curve_value = (answer_given _ _ c.in_ok-check_curve.ensures).0;
  curve_in_bounds =
      let n : Curve = c.args.curve in
      elim c.else-list-most.branch [
        | else-list-most-via-then-list-most+else-list-count_cells w ↦ omega (arith, w.count_cells.ensures, w.if-list-count_cells.false)
        | else-list-most-via-else-list-most w ↦
            omega (arith, w.if-list-most.false, path_at_most n.steps n.points n.mark n.choice)
      ];
}

pub returns-in_err-check_curve : goal.returns-in_err-check_curve
returns-in_err-check_curve c =
    lists_refused (path_listing c.args.side (curve_of c.args.curve)) c.args.list.now
    (check_refused _ _ _ (answer_refused _ _ c.in_err-check_curve.ensures)) (search rules)

pub returns : goal.returns
unfolding path_length
returns c =
    let S = c.args.side in
    let n : Curve = c.args.curve in
    let list = c.args.list.now in
    let room : 3 * path_length (curve_of n) ≤ length list =
    elim c.else-list-most.branch [
      | else-list-most-via-then-list-most+else-list-count_cells w ↦ omega (arith, w.count_cells.ensures, w.if-list-count_cells.false)
      | else-list-most-via-else-list-most w ↦
          omega (arith, w.if-list-most.false, path_at_most n.steps n.points n.mark n.choice)
    ] in
    let e = long_enough S (curve_of n) (length list) (answer_given _ _ c.in_ok-check_curve.ensures).0 room in
    record {
      answer = rw e (ap gives c.list_cells.ensures.value);
      leaves = c.list_cells.ensures.list_after ∙ sym (listed_accepted (path_listing S (curve_of n)) list e);
    }
