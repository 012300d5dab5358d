-- `put_row` meets its contract: after i turns the lines of the first i cells are written.
use mathlib.Core.Path.{◌≡◌}
use mathlib.Core.List.{List, ◌∷◌, [], append-nil}
use Prim.Native.Nat.{ℕ, suc, ◌+◌, ◌*◌, ◌≤◌, ◌<◌}
use native.Mathlib.Omega.{arith}
use borrow.Rule.Slice.PartMut.{put_mid}
use lib.ListN.{length, take, get_or}
use Rattle.sheet.specs.Line.{as_line}
use Rattle.sheet.proofs.Printed.{length_in_line}
use Rattle.sheet_text.specs.Puts.{Puts}
use Rattle.sheet_text.proofs.Puts.{puts_part}
use Rattle.sheet_listing.specs.Row.{row_lines}
use Rattle.sheet_listing.proofs.Rows.{line_marked, line_unmarked, row_next}
use Rattle.sheet_listing.proofs.cells.put_row.Given as goal

-- The lines of the first i cells are written, at most 21 bytes each.
pub record SoFar (marks : List ℕ) (x y z : ℕ) (text₀ text : List ℕ) (bytes i : ℕ) : Type 0 where
  pub puts : Puts (row_lines x y z (take i marks)) text₀ text bytes
  pub most : bytes ≤ 21 * i

module _ {marks : List ℕ} {x y z : ℕ} {text₀ text : List ℕ} {bytes i : ℕ}
    (s : SoFar marks x y z text₀ text bytes i) (l : i < length marks) where
  -- With the line of a marked cell.
  pub marked : {line : List ℕ} {k : ℕ} → k ≡ 21 → ¬ (get_or marks i 0 ≡ 0) → line ≡ as_line ((x + i) ∷ y ∷ z ∷ get_or marks i 0 ∷ []) →
      SoFar marks x y z text₀ (put_mid bytes k text line) (bytes + 21) (suc i)
  marked {line} {k} size mark is = record {
    puts =
        rw (row_next x y z i marks l, line_marked (x + i) y z (get_or marks i 0) mark, is, size)
        (puts_part s.puts (as_line ((x + i) ∷ y ∷ z ∷ get_or marks i 0 ∷ [])) 21 (length_in_line 5 _));
    most = omega (arith, s.most);
  }

  -- Past an unmarked cell.
  pub unmarked : get_or marks i 0 ≡ 0 → SoFar marks x y z text₀ text bytes (suc i)
  unmarked mark = record {
    puts = rw (row_next x y z i marks l, line_unmarked (x + i) y z (get_or marks i 0) mark, append-nil) s.puts;
    most = omega (arith, s.most);
  }

abbrev pub invariant-loop-i : goal.invariant-loop-i
invariant-loop-i l = SoFar l.marks l.x l.y l.z l.initial.text l.text l.bytes l.i
