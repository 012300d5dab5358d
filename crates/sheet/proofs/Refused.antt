-- The refusal line: when it is written, and what it then says.
use mathlib.Core.Path.{◌≡◌, ◌∙◌, ap}
use mathlib.Core.Bool.{false}
use mathlib.Core.List.{[], ◌∷◌}
use Prim.Native.Nat.{ℕ, ◌≤◌}
use native.Mathlib.Omega.{arith}
use lib.Dec.{ltb}
use lib.ListN.{take, drop}
use lib.Seq.{take_at, drop_at}
use borrow.Author.Tests.{le-ltb, ltb-false}
use Rattle.decide.specs.Some.{some_below}
use Rattle.decide.specs.Refusal.{accepted, first_that}
use Rattle.decide.proofs.FirstThat.{accepted_passes}
use Rattle.decide.proofs.Truth.{both_false}
use Rattle.sheet.specs.Field.{value_of, columns}
use Rattle.sheet.specs.Line.{field, number, some_bad, in_line, as_line}
use Rattle.sheet.specs.Printed.{refusal_line}
use Rattle.sheet.specs.Part.{line_order}
use Rattle.sheet.proofs.Numbers.{length_in_columns, reads_back}

-- Numbers that 5 columns hold and a text of 18 bytes.
pub line_accepted : (n k textLength : ℕ) → n ≤ 99999 → k ≤ 99999 → 18 ≤ textLength →
    first_that (line_order n k textLength) ≡ accepted
unfolding first_that line_order
line_accepted n k len number line room = simp (le-ltb 99999 n number, le-ltb 99999 k line, le-ltb len 18 room)

-- The two fields after the word REFUSED.
line_fields : (n k : ℕ) →
    (field (drop 7 (refusal_line n k)) 0 ≡ columns n) × (field (drop 7 (refusal_line n k)) 1 ≡ columns k)
unfolding refusal_line in_line
line_fields n k = (
  take_at (columns n) (as_line (k ∷ [])) 5 (length_in_columns 5 n),
  ap (take 5) (drop_at (columns n) (as_line (k ∷ [])) 5 (length_in_columns 5 n)) ∙
      take_at (columns k) (as_line []) 5 (length_in_columns 5 k),
)

-- So where no number refuses the line, the refused number and line read back from their columns.
pub line_reads_back : (n k textLength : ℕ) → first_that (line_order n k textLength) ≡ accepted →
    (some_bad 2 (drop 7 (refusal_line n k)) ≡ false) ×
    (number (drop 7 (refusal_line n k)) 0 ≡ n) × (number (drop 7 (refusal_line n k)) 1 ≡ k)
unfolding some_bad some_below line_order
line_reads_back n k len e =
    let f = line_fields n k in
    let small = both_false (ltb 99999 n) (ltb 99999 k) (accepted_passes _ _ _ e).0 in
    let first = reads_back n (omega (arith, ltb-false 99999 n small.0)) in
    let second = reads_back k (omega (arith, ltb-false 99999 k small.1)) in
    (rw (f.0, f.1, first.0, second.0), ap value_of f.0 ∙ first.1, ap value_of f.1 ∙ second.1)
