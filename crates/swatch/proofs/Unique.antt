-- Each contract fixes its answer: two answers of which it holds are equal.
use mathlib.Core.Path.{◌≡◌, sym, ◌∙◌, ap}
use Prim.Native.Nat.{ℕ}
use Rattle.std.specs.Prelude.{Result, Ok, Err}
use Rattle.decide.specs.declared.Refusal.{Refusal}
use Rattle.decide.proofs.Unique.{number_unique}
use Rattle.channel.specs.declared.Rgb.{Rgb}
use Rattle.swatch.specs.declared.Cell.{Cell}
use Rattle.swatch.specs.declared.Swatch.{Swatch}
use Rattle.swatch.specs.ToCell.{IsCell, CellSays}
use Rattle.swatch.specs.HalfWay.{IsHalfWay, HalfWaySays}

-- Three channels have one cell.
pub cell_unique : (S : ℕ) (c : Rgb) (r t : Cell) → IsCell S c r → IsCell S c t → r ≡ t
cell_unique S c r t h k =
    let x = h.x ∙ sym k.x in
    let y = h.y ∙ sym k.y in
    let z = h.z ∙ sym k.z in
    let e : ◌≡◌ {A = Cell} (record { x = r.x; y = r.y; z = r.z }) (record { x = t.x; y = t.y; z = t.z }) = cc in
    e

-- A swatch has one answer at a side.
pub cell_answer_unique : (S : ℕ) (w : Swatch) (r t : Result Cell Refusal) → CellSays S w r → CellSays S w t → r ≡ t
cell_answer_unique S w (Err d) (Err e) h k = ap Err (number_unique d e cc)
cell_answer_unique S w (Err d) (Ok c) h k = let e = k.no_number in cc
cell_answer_unique S w (Ok c) (Err d) h k = let e = h.no_number in cc
cell_answer_unique S w (Ok c) (Ok d) h k = ap Ok (cell_unique S _ c d h.cell k.cell)

-- Two sets of channels have one half-way.
pub half_way_unique : (a b r t : Rgb) → IsHalfWay a b r → IsHalfWay a b t → r ≡ t
half_way_unique a b r t h k =
    let x = h.red.formula ∙ sym k.red.formula in
    let y = h.green.formula ∙ sym k.green.formula in
    let z = h.blue.formula ∙ sym k.blue.formula in
    let e : ◌≡◌ {A = Rgb} (record { red = r.red; green = r.green; blue = r.blue })
    (record { red = t.red; green = t.green; blue = t.blue }) = cc in
    e

-- Two swatches have one answer.
pub half_way_answer_unique : (a b : Swatch) (r t : Result Rgb Refusal) → HalfWaySays a b r → HalfWaySays a b t → r ≡ t
half_way_answer_unique a b (Err d) (Err e) h k = ap Err (number_unique d e cc)
half_way_answer_unique a b (Err d) (Ok c) h k = let e = k.no_number in cc
half_way_answer_unique a b (Ok c) (Err d) h k = let e = h.no_number in cc
half_way_answer_unique a b (Ok c) (Ok d) h k = ap Ok (half_way_unique _ _ c d h.mixed k.mixed)
