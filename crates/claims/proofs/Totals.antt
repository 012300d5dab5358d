-- The totals of an accepted sheet add up: its marks are 1 to 255, so its cube holds bytes.
use mathlib.Core.Path.{◌≡◌, ap}
use mathlib.Core.Logic.{⊎_elim}
use mathlib.Core.List.{List, [], ◌∷◌}
use Prim.Native.Nat.{ℕ, ◌<◌}
use native.Mathlib.Omega.{arith}
use lib.Dec.{eqb, ltb}
use lib.ListN.{length, replicate, length-replicate, get_or-replicate}
use Rattle.decide.specs.Refusal.{accepted, first_that}
use Rattle.decide.proofs.FirstThat.{accepted_passes}
use Rattle.decide.proofs.Truth.{both_false, false_iff, not_less}
use Rattle.cube.specs.Cube.{volume}
use Rattle.drawing.specs.Object.{Object}
use Rattle.drawing.specs.Refusals.{order}
use Rattle.drawing.specs.Drawing.{drawing_of, drawn, in_turn}
use Rattle.drawing.proofs.Drawn.{drawn_holds, length_drawn}
use Rattle.sheet.specs.Line.{number}
use Rattle.sheet.specs.Sheet.{Stroke, stroke_of, object_of, mark_out, curve_order, good, judge}
use Rattle.sheet.specs.Printed.{cube_of}
use Rattle.sheet_cube.specs.Lines.{found}
use Rattle.sheet_cube.proofs.Judged.{passes}
use Rattle.sheet_cube.proofs.Drawing.{Each, good_strokes, good_sheet}
use Rattle.sheet.proofs.NewCells.{length_cube}
use Rattle.totals.specs.Sums.{Bytes}
use Rattle.totals.specs.Printed.{totals_printed, totals_output}
use Rattle.totals.proofs.Sums.{counts_add_up, sums_add_up}
use Rattle.totals.proofs.Numbers.{numbers_fit}
use Rattle.claims.specs.Totals.{Claim}

-- The mark of an accepted curve line.
mark_small : (S k : ℕ) (l : List ℕ) → first_that (curve_order S k l) ≡ accepted → (stroke_of l).mark < 256
unfolding order mark_out
mark_small S k l e =
    let a = accepted_passes _ _ _ (passes l e).drawn in
    let b = accepted_passes _ _ _ a.1 in
    let c = accepted_passes _ _ _ b.1 in
    let most = (both_false (eqb (number l 0) 0) (ltb 255 (number l 0)) c.0).1 in
    omega (arith, not_less 255 (number l 0) ((false_iff _).0 most))

-- Every mark is a byte.
abbrev Marks : List Stroke → Type 0
Marks strokes = Each (λ s. s.mark < 256) strokes

-- One drawing more leaves bytes.
drawn_bytes : (S : ℕ) (o : Object) (grid : List ℕ) → o.mark < 256 → Bytes grid → Bytes (drawn S o grid)
drawn_bytes S o grid small bytes q l =
    let there : q < length grid = omega (arith, l, length_drawn (drawing_of S o) grid) in
    ⊎_elim
    (λ kept. rw kept (bytes q there))
    (λ w. rw w.2 small)
    (drawn_holds (drawing_of S o) grid q there)

turns_bytes : (S : ℕ) (strokes : List Stroke) (grid : List ℕ) → Marks strokes → Bytes grid →
    Bytes (in_turn (λ s. drawn S (object_of s)) strokes grid)
unfolding in_turn
turns_bytes S [] grid small bytes = bytes
turns_bytes S (s ∷ strokes) grid small bytes =
    turns_bytes S strokes (drawn S (object_of s) grid) small.1 (drawn_bytes S (object_of s) grid small.0 bytes)

-- The cube of a good sheet holds bytes.
cube_bytes : (input : List ℕ) {S : ℕ} {strokes : List Stroke} → judge input ≡ good S strokes → Bytes (cube_of S strokes)
unfolding cube_of
cube_bytes input {S} {strokes} e =
    turns_bytes S strokes (replicate (volume S) 0) (good_strokes (λ s. s.mark < 256) S (mark_small S) input e)
    (λ q l. rw (get_or-replicate {A = ℕ} (volume S) q 0 0 (omega (arith, l, length-replicate {A = ℕ} (volume S) 0))) (omega arith))

pub claim : Claim
unfolding totals_output
claim = record {
  sheet_totals = λ input S strokes e.
      let g = good_sheet input (ap found e) in
      let size = length_cube S strokes in
      let bytes = cube_bytes input e in
      record {
        printed = ap totals_printed e;
        add_up = record {
          counts = counts_add_up S (cube_of S strokes) size bytes;
          sums = λ a. sums_add_up S a (cube_of S strokes) size bytes;
          fits = numbers_fit S (cube_of S strokes) (omega (arith, g.side_most)) size;
        };
      };
}
