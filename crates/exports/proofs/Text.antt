-- What is written into a text is few bytes, and its count a signed answer.
use mathlib.Core.Path.{◌≡◌, refl, ◌∙◌, ap}
use mathlib.Core.List.{List}
use Prim.Native.Nat.{ℕ, ◌^◌, ◌<◌}
use native.Mathlib.Nat.{mul-le-mul}
use native.Mathlib.Omega.{arith}
use lib.Dec.{lit<}
use lib.IntN.{ℤ}
use lib.ListN.{length, take, drop, length-append, length-take, length-drop}
use Rattle.std.specs.Prelude.{Result, Ok, Err}
use Rattle.decide.specs.declared.Refusal.{Refusal}
use Rattle.decide.specs.Verdict.{outcome_of}
use Rattle.decide.specs.Refusal.{Verdict, accepted, refused, outcome, first_that}
use Rattle.sheet.specs.Printed.{refusal_line}
use Rattle.sheet.specs.Part.{part, part_order}
use Rattle.sheet.proofs.Printed.{length_refusal_line}
use Rattle.sheet.proofs.Parts.{length_head_at_most, length_cells_at_most}
use Rattle.sheet_text.specs.Writes.{Writes}
use Rattle.sheet_text.proofs.Refusals.{passes}
use Rattle.totals.specs.Totals.{totals}
use Rattle.totals.proofs.Lines.{length_totals_at_most}
use Rattle.exports.specs.Signed.{signed_of}
use Rattle.exports.specs.Text.{SmallWritten, WritesSigned}

-- A part of a cube has at most 21 bytes for each of 262144 cells, and the heading.
pub part_small : (S p count textLength : ℕ) (cube : List ℕ) →
    first_that (part_order S count (length cube) textLength) ≡ accepted → length (part S p count cube) < 2 ^ 32
unfolding part
part_small S p count textLength cube e =
    let a = passes S (length cube) _ e in
    rw length-append (
    omega (
      arith,
      a.whole,
      mul-le-mul (mul-le-mul a.side_most a.side_most) a.side_most,
      length_head_at_most p,
      length_cells_at_most S p (take count (drop p cube)),
      length-take count (drop p cube),
      length-drop p cube,
    )
    )

-- The totals of a cube have at most 13056.
pub totals_small : (S : ℕ) (cube : List ℕ) → length (totals S cube) < 2 ^ 32
totals_small S cube = omega (arith, length_totals_at_most S cube)

-- A refusal line has 18.
pub line_small : (n k : ℕ) → length (refusal_line n k) < 2 ^ 32
line_small n k = rw length_refusal_line (lit< tt)

-- So what a call answers is small,
pub small_written : {v : Verdict} {bytes text after : List ℕ} {r : Result ℕ Refusal} → Writes v bytes text after r →
    (v ≡ accepted → length bytes < 2 ^ 32) → SmallWritten r
small_written {v} {bytes} {r = r} d h = by_answer v r d.answer h
  where
    by_answer : (v : Verdict) (r : Result ℕ Refusal) → outcome_of r ≡ outcome v (length bytes) → (v ≡ accepted → length bytes < 2 ^ 32) →
        SmallWritten r
    by_answer accepted (Ok k) e h = let l = h refl in let same : k ≡ length bytes = cc in omega arith
    by_answer (refused j) (Ok k) e h = let z : ◌≡◌ {A = ℕ} 0 1 = cc in absurd (omega arith)
    by_answer v (Err d) e h = tt

-- and its number a signed answer.
pub written_signed : {v : Verdict} {bytes text after : List ℕ} {w : Result ℕ Refusal} {r : ℤ} → Writes v bytes text after w →
    r ≡ signed_of (outcome_of w) → WritesSigned v bytes text after r
written_signed d e = record { answer = e ∙ ap signed_of d.answer; leaves = d.leaves }
