-- Calls with a record that C passes as bytes, and with a choice that it passes as a number: 51 and 55 where they are none,
-- and else the call itself.
use Rattle.std.specs.Prelude.{◌≡◌, Bool, cond, List, [], ◌∷◌, ℕ, ltb, eqb, ℤ, length}
use Rattle.decide.specs.Refusal as refusal
use Rattle.decide.specs.Refusal.{Rule, ◌when◌, Verdict, Outcome, gives, refuses, telling, accepted, first_that}
use Rattle.drawing.specs.declared.Choice.{Choice}
use Rattle.drawing.specs.declared.Choice.TheVariants.{Over, Under}
use Rattle.drawing.specs.Object.{Object}
use Rattle.drawing.specs.Refusals.{check_verdict}
use Rattle.drawing.specs.Drawing.{Drawing, drawn_by, Listing, listed_by}
use Rattle.drawing.specs.NewCells.{new_cells}
use Rattle.scan.specs.declared.answer.Drawn.{Drawn}
use Rattle.chosen.specs.Chosen.{chosen, count_verdict}
use Rattle.flip.specs.Flip.{exchanged}
use Rattle.exports.specs.Signed.{signed, other_length, own_first}

-- 0 is over, and any other number under: 1, since 55 refuses the rest.
abbrev pub choice_of : (number : ℕ) → Choice
choice_of k = cond (eqb k 0) Over Under

-- A choice that does not exist.
abbrev pub no_choice : (number : ℕ) → Bool
no_choice k = ltb 1 k

-- A record of another length, and for a drawing also a choice that does not exist.
abbrev pub record_order : (size : ℕ) (bytes : List ℕ) → List Rule
record_order size bytes =
    51 when other_length size bytes ∷
    []

abbrev pub draw_order : (size : ℕ) (bytes : List ℕ) (choice : ℕ) → List Rule
draw_order size bytes choice =
    51 when other_length size bytes ∷
    55 when no_choice choice ∷
    []

-- The signed answer, and what is lent: what it held if a number of the interface's own applies, and else what the call
-- leaves.
pub record Calls (own : List Rule) (v : Verdict) (count : ℕ) (left before after : List ℕ) (r : ℤ) : Type 0 where
  pub answer : r ≡ signed (own_first own v) count
  pub leaves : after ≡ refusal.leaves (first_that own) left before

-- A check: what it tells of an accepted object, of a patch or a solid 0, or minus the number.
abbrev pub ChecksBytes : (size S : ℕ) (o : Object) (told : ℕ) (r : ℤ) → Type 0
ChecksBytes size S o told r = r ≡ signed (own_first (record_order size o.points) (check_verdict S o)) told

-- Of a curve: 1 where the step test quit, and 0 where it walked.
abbrev pub quit_number : (quit : Bool) → ℕ
quit_number quit = cond quit 1 0

abbrev pub quit_of : Outcome Bool → Outcome ℕ
quit_of = telling quit_number

-- The count that the box chooses, or minus the number.
abbrev pub CountsBytes : (size S : ℕ) (points : List ℕ) (r : ℤ) → Type 0
CountsBytes size S points r = r ≡ signed (own_first (record_order size points) (count_verdict S points)) (chosen points)

-- Of what a drawing answers, its number, and what stands for its new cells afterwards: their number, or where it is refused
-- what was there.
abbrev pub answer_of : Outcome Drawn → Outcome ℕ
answer_of = telling (λ d. d.answer)

abbrev pub new_cells_after : Outcome Drawn → (before : ℕ) → ℕ
new_cells_after (gives d) before = d.new_cells
new_cells_after (refuses k) before = before

-- A drawing of whatever kind, with the record's bytes and the number of its choice: its number, or minus the refusal's; the
-- grid; and the number of new cells.
pub record DrawsBytes (size : ℕ) (points : List ℕ) (choice : ℕ) (d : Drawing)
    (grid gridNow : List ℕ) (new newNow : ℕ) (r : ℤ) : Type 0 where
  pub call : Calls (draw_order size points choice) (d.verdict (length grid)) d.answer (drawn_by d grid) grid gridNow r
  pub new_cells : newNow ≡
      refusal.leaves (own_first (draw_order size points choice) (d.verdict (length grid))) (new_cells grid gridNow) new

-- A listing of whatever kind, with the record's bytes: its number, or minus the refusal's; and the list.
abbrev pub ListsBytes : (size : ℕ) (points : List ℕ) (l : Listing) (list listNow : List ℕ) (r : ℤ) → Type 0
ListsBytes size points l list listNow r =
    Calls (record_order size points) (l.verdict (length list)) l.answer (listed_by l list) list listNow r

-- A flip from bytes to bytes: 51 where the points have another length than such a record's, 52 where what they are written to has.
abbrev pub flip_order : (size : ℕ) (points flipped : List ℕ) → List Rule
flip_order size points flipped =
    51 when other_length size points ∷
    52 when other_length size flipped ∷
    []

-- Of a curve or a patch: 0, or minus the number; and the flip's points.
abbrev pub FlipsBytes : (size : ℕ) (flip : List ℕ → List ℕ) (points flipped flippedNow : List ℕ) (r : ℤ) → Type 0
FlipsBytes size flip points flipped flippedNow r =
    Calls (flip_order size points flipped) accepted 0 (flip points) flipped flippedNow r

-- Of a patch besides: the flip's step counts, which are n and m exchanged, or where it is refused what they were.
pub record FlipsPatchBytes (points : List ℕ) (n m nNow mNow : ℕ) (flipped flippedNow : List ℕ) (r : ℤ) : Type 0 where
  pub call : FlipsBytes 48 exchanged points flipped flippedNow r
  pub along_t : nNow ≡ refusal.leaves (first_that (flip_order 48 points flipped)) m n
  pub along_u : mNow ≡ refusal.leaves (first_that (flip_order 48 points flipped)) n m
