-- The length of the totals: 51 bytes a line, and at most 256 lines.
use mathlib.Core.Path.{◌≡◌, refl, ◌∙◌, ap₂}
use mathlib.Core.Logic.{⊎_elim}
use mathlib.Core.List.{List, [], ◌∷◌, ◌++◌, append_assoc}
use Prim.Native.Nat.{ℕ, zero, suc, ◌+◌, ◌*◌, ◌≤◌}
use native.Mathlib.Omega.{arith}
use lib.ListN.{length, length-append}
use Rattle.sheet.specs.Line.{in_line}
use Rattle.sheet.proofs.Printed.{length_in_line}
use Rattle.totals.specs.Totals.{numbers, held_from, mark_lines, totals}
use Rattle.totals.proofs.Marks.{by_held, with_held, without}

-- Lines and lines after them.
pub lines_append : (S : ℕ) (cube a b : List ℕ) → mark_lines S cube (a ++ b) ≡ mark_lines S cube a ++ mark_lines S cube b
unfolding mark_lines
lines_append S cube [] b = refl
lines_append S cube (m ∷ a) b =
    rw (lines_append S cube a b, append_assoc (in_line 10 (numbers S cube m)) (mark_lines S cube a) (mark_lines S cube b))

length_lines : (S : ℕ) (cube ms : List ℕ) → length (mark_lines S cube ms) ≡ 51 * length ms
unfolding mark_lines
length_lines S cube [] = refl
length_lines S cube (m ∷ ms) =
    length-append (in_line 10 (numbers S cube m)) (mark_lines S cube ms) ∙
    ap₂ ◌+◌ (length_in_line 10 (numbers S cube m)) (length_lines S cube ms) ∙ omega arith

-- Of a range of marks at most all have a line.
held_at_most : (m k : ℕ) (cube : List ℕ) → length (held_from m k cube) ≤ k
unfolding held_from
held_at_most m zero cube = omega arith
held_at_most m (suc k) cube =
    let later = held_at_most (suc m) k cube in
    ⊎_elim (λ t. rw (with_held m k cube t) (omega arith)) (λ f. rw (without m k cube f) (omega arith)) (by_held cube m)

pub length_totals_at_most : (S : ℕ) (cube : List ℕ) → length (totals S cube) ≤ 13056
unfolding totals
length_totals_at_most S cube =
    rw (length_lines, length-append) (omega (arith, held_at_most 1 255 cube))
