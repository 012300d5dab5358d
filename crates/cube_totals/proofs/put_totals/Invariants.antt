-- `put_totals` meets its contract: before a mark's turn the lines of the marks below it are written.
use mathlib.Core.Path.{◌≡◌, subst}
use mathlib.Core.Bool.{true, false}
use mathlib.Core.List.{List}
use Prim.Native.Nat.{ℕ, suc, ◌+◌, ◌*◌, ◌≤◌}
use native.Mathlib.Omega.{arith}
use borrow.Rule.Slice.PartMut.{put_mid}
use Rattle.sheet.specs.Line.{in_line}
use Rattle.sheet.proofs.Printed.{length_in_line}
use Rattle.sheet_text.specs.Puts.{Puts}
use Rattle.sheet_text.proofs.Puts.{puts_part}
use Rattle.totals.specs.Totals.{is_held, numbers, held_from, mark_lines}
use Rattle.cube_totals.proofs.Lines.{line_more, no_line}
use Rattle.cube_totals.proofs.put_totals.Given as goal

-- The lines of the marks below the next are written, at most 51 bytes each.
pub record SoFar (S : ℕ) (cube text₀ text : List ℕ) (bytes mark : ℕ) : Type 0 where
  pub below : ℕ
  pub is : mark ≡ 1 + below
  pub puts : Puts (mark_lines S cube (held_from 1 below cube)) text₀ text bytes
  pub most : bytes ≤ 51 * below

module _ {S : ℕ} {cube text₀ text : List ℕ} {bytes mark : ℕ} (s : SoFar S cube text₀ text bytes mark) where
  -- With the line of a mark that is held.
  pub held : {line : List ℕ} {k : ℕ} → k ≡ 51 → is_held cube mark ≡ true → line ≡ in_line 10 (numbers S cube mark) →
      SoFar S cube text₀ (put_mid bytes k text line) (bytes + 51) (mark + 1)
  held {line} {k} size h is = record {
    below = suc s.below;
    is = omega (arith, s.is);
    puts =
        rw (line_more S cube s.below (subst (λ m. is_held cube m ≡ true) s.is h), is, size, s.is)
        (puts_part s.puts (in_line 10 (numbers S cube (1 + s.below))) 51 (length_in_line 10 _));
    most = omega (arith, s.most);
  }

  -- Past a mark that is not.
  pub not_held : is_held cube mark ≡ false → SoFar S cube text₀ text bytes (mark + 1)
  not_held h = record {
    below = suc s.below;
    is = omega (arith, s.is);
    puts = rw (no_line S cube s.below (subst (λ m. is_held cube m ≡ false) s.is h)) s.puts;
    most = omega (arith, s.most);
  }

abbrev pub invariant-loop-mark : goal.invariant-loop-mark
invariant-loop-mark l = SoFar l.cube.side l.cube.bytes.now l.initial.text l.text l.bytes l.mark
