-- Lines from the table are lines of the cube: a mark's numbers are the halves of its two words, and its count is 0 just
-- where no cell holds it. So the lines of the marks before one, and of that one, are those before the next.
use mathlib.Core.Path.{◌≡◌, sym, ◌∙◌, ap}
use mathlib.Core.Bool.{true, false}
use mathlib.Core.List.{List, [], ◌∷◌, ◌++◌, append-nil}
use Prim.Native.Nat.{ℕ, suc, ◌+◌, ◌*◌, ◌/◌, ◌%◌, ◌≤◌, ◌<◌}
use native.Mathlib.Omega.{arith}
use lib.ListN.{length}
use Rattle.decide.proofs.Truth.{true_of, false_of}
use Rattle.cube.specs.Cube.{x_axis, y_axis, z_axis, volume, cell_at}
use Rattle.sheet.specs.Line.{in_line}
use Rattle.totals.specs.Totals.{count, sum, is_held, numbers, held_from, mark_lines, totals}
use Rattle.totals.proofs.Marks.{with_held, without, held_more, count_held}
use Rattle.totals.proofs.Sums.{sum_pair}
use Rattle.totals.proofs.Numbers.{count_small, sum_small}
use Rattle.totals.proofs.Lines.{lines_append}
use Rattle.cube_totals.specs.declared.tally.Total.{Total}
use Rattle.cube_totals.specs.Table.{two_to32, word, Table, numbers_of, four_of}

-- The halves of a word.
low : (a b : ℕ) → a < two_to32 → (a + two_to32 * b) % two_to32 ≡ a
low a b l = omega arith

high : (a b : ℕ) → a < two_to32 → (a + two_to32 * b) / two_to32 ≡ b
high a b l = omega arith

module _ {S : ℕ} {cube table : List ℕ} (t : Table S cube table) (most : S ≤ 64) (size : length cube ≡ volume S)
    (mark : ℕ) (small : mark < 256) where
  first : word table mark 0 ≡ count cube mark + two_to32 * sum S x_axis cube mark
  first =
      t.holds mark 0 small (omega arith) ∙ sum_pair (λ p. 1) (λ p. cell_at S p x_axis) two_to32 mark 0 cube

  second : word table mark 1 ≡ sum S y_axis cube mark + two_to32 * sum S z_axis cube mark
  second =
      t.holds mark 1 small (omega arith) ∙
      sum_pair (λ p. cell_at S p y_axis) (λ p. cell_at S p z_axis) two_to32 mark 0 cube

  numbers_are : mark ∷ numbers_of table mark ≡ numbers S cube mark
  numbers_are =
      let a : count cube mark < two_to32 = omega (arith, count_small S cube most size mark) in
      let b : sum S y_axis cube mark < two_to32 = omega (arith, sum_small S cube most size y_axis mark) in
      rw (
        first,
        second,
        low (count cube mark) (sum S x_axis cube mark) a,
        high (count cube mark) (sum S x_axis cube mark) a,
        low (sum S y_axis cube mark) (sum S z_axis cube mark) b,
        high (sum S y_axis cube mark) (sum S z_axis cube mark) b,
      )

  module _ {held : Total} (is : four_of held ≡ numbers_of table mark) where
    held_are : mark ∷ four_of held ≡ numbers S cube mark
    held_are = ap (mark ∷◌) is ∙ numbers_are

    count_is : held.count ≡ count cube mark
    count_is = let e = held_are in cc

    -- The line of the table's numbers is the mark's line.
    pub line_is : in_line 10 (mark ∷ four_of held) ≡ in_line 10 (numbers S cube mark)
    line_is = ap (in_line 10) held_are

    pub held_counts : ¬ (held.count ≡ 0) → is_held cube mark ≡ true
    held_counts some = true_of (is_held cube mark) ((count_held cube mark).1 (omega (arith, some, count_is)))

    pub not_held_counts : held.count ≡ 0 → is_held cube mark ≡ false
    not_held_counts none =
        false_of (is_held cube mark) (λ h. omega (arith, none, count_is, (count_held cube mark).0 h))

-- The lines of so many marks from 1 on.
module _ (S : ℕ) (cube : List ℕ) (k : ℕ) where
  pub line_more : is_held cube (1 + k) ≡ true →
      mark_lines S cube (held_from 1 (suc k) cube) ≡ mark_lines S cube (held_from 1 k cube) ++ in_line 10 (numbers S cube (1 + k))
  unfolding mark_lines held_from
  line_more held =
      ap (mark_lines S cube) (held_more 1 k cube) ∙ lines_append S cube (held_from 1 k cube) (held_from (1 + k) 1 cube) ∙
      rw (with_held (1 + k) 0 cube held) (ap (mark_lines S cube (held_from 1 k cube) ++◌) (append-nil _))

  pub no_line : is_held cube (1 + k) ≡ false → mark_lines S cube (held_from 1 (suc k) cube) ≡ mark_lines S cube (held_from 1 k cube)
  unfolding held_from
  no_line held =
      ap (mark_lines S cube) (held_more 1 k cube ∙ rw (without (1 + k) 0 cube held) (append-nil _))

-- All of them, and the line of mark 0.
pub all_lines : (S : ℕ) (cube : List ℕ) →
    mark_lines S cube (held_from 1 255 cube) ++ in_line 10 (numbers S cube 0) ≡ totals S cube
unfolding mark_lines totals
all_lines S cube =
    sym (lines_append S cube (held_from 1 255 cube) (0 ∷ []) ∙ ap (mark_lines S cube (held_from 1 255 cube) ++◌) (append-nil _))
