-- `gidzkhalu_to_cell` meets its contract: the kind and the cell's length are judged, then the call.
use mathlib.Core.Path.{◌≡◌, refl, ◌∙◌, subst}
use mathlib.Core.Bool.{false}
use mathlib.Core.List.{List}
use Prim.Native.Nat.{ℕ}
use native.Mathlib.Omega.{arith}
use lib.ListN.{length}
use Rattle.std.specs.Prelude.{Ok, Err}
use Rattle.decide.specs.Verdict.{number_of}
use Rattle.decide.specs.Refusal.{first_that}
use Rattle.decide.proofs.FirstThat.{first_applies}
use Rattle.swatch.specs.declared.Swatch.{Swatch}
use Rattle.swatch.specs.ToCell.{CellSays, cell_refusals}
use Rattle.exports.specs.Swatches.{swatch_of, no_kind, cell_order}
use Rattle.exports.proofs.Small.{reads}
use Rattle.exports.proofs.Cells.{three_bytes, wrong_kind, right_kind, fills_refused, fills_accepted, other_length_lem, own_numbers}
use Rattle.exports.proofs.swatches.gidzkhalu_to_cell.Goals as goal

pub returns-in_default : goal.returns-in_default
returns-in_default c =
    fills_refused 53 (first_applies 53 _ _ (wrong_kind (no_kind c.args.kind) _ c.in_default.ensures))
    (reads c.refused.ensures)

pub returns-then-cell-ne3 : goal.returns-then-cell-ne3
returns-then-cell-ne3 c =
    fills_refused 52
    (other_length_lem 3 c.args.cell.now _ _ (right_kind (no_kind c.args.kind) _ c.in-Ok.ensures).0 (λ t. omega (arith, t, c.if-cell-ne3.true)))
    (reads c.refused-then-cell-ne3.ensures)

-- Where the kind and the cell are good, the call's own numbers are left.
own : (side kind : ℕ) (swatch : Swatch) (cell : List ℕ) → no_kind kind ≡ false → length cell ≡ 3
    → first_that (cell_order side kind swatch cell) ≡ first_that (cell_refusals side swatch)
own side kind swatch cell k e = own_numbers 3 cell _ _ k e

pub returns-in-Err : goal.returns-in-Err
returns-in-Err c =
    let s = c.args in
    let kind = right_kind (no_kind s.kind) (swatch_of s.kind s.a s.b s.c) c.in-Ok.ensures in
    let swatch = swatch_of s.kind s.a s.b s.c in
    let says = subst (λ w. CellSays s.side w (Err c.in-Err.refusal)) kind.1 c.in-Err.ensures in
    let three : length s.cell.now ≡ 3 = omega (arith, c.if-cell-ne3.false) in
    fills_refused (number_of c.in-Err.refusal) (own s.side s.kind swatch s.cell.now kind.0 three ∙ says) (reads c.refused-in-Err.ensures)

pub returns-in-Ok-to_cell : goal.returns-in-Ok-to_cell
returns-in-Ok-to_cell c =
    let s = c.args in
    let kind = right_kind (no_kind s.kind) (swatch_of s.kind s.a s.b s.c) c.in-Ok.ensures in
    let swatch = swatch_of s.kind s.a s.b s.c in
    let says = subst (λ w. CellSays s.side w (Ok c.in-Ok-to_cell.found)) kind.1 c.in-Ok-to_cell.ensures in
    let three : length s.cell.now ≡ 3 = omega (arith, c.if-cell-ne3.false) in
    fills_accepted (own s.side s.kind swatch s.cell.now kind.0 three ∙ says.no_number) refl
    (record { cell = c.in-Ok-to_cell.found; right = says.cell; written = three_bytes s.cell.now _ _ _ three })
