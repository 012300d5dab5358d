-- Document 02, A.9: the preview strip, document 01's drawing of curves and patches with a small cube: side 2 to 17 and at most 64
-- steps along each parameter.
use Rattle.std.specs.Prelude.{◌≡◌, Bool, false, ◌||◌, List, ℕ, ltb}
use Rattle.decide.specs.Some.{some_of}
use Rattle.decide.specs.Refusal.{Rule, ◌when◌, Verdict, accepted, refused, first_that, right_after}
use Rattle.drawing.specs.declared.Choice.{Choice}
use Rattle.drawing.specs.Object.{Object}
use Rattle.drawing.specs.Refusals.{drawing_order}
use Rattle.drawing.specs.Drawing.{Drawing, drawing_of, judged_by}

-- 23: a side above the strip's. Right after 11 it is one of 18 to 64.
unfoldable pub side_above : (S : ℕ) → Bool
side_above S = ltb 17 S

-- 24: a step count above the strip's. Right after 13 it is one that 13 lets pass, as it does all others of the record.
unfoldable pub count_above : (n : ℕ) → Bool
count_above n = ltb 64 n

-- The order: document 01's for drawing, with two rules more: 11, 23, 21, 12, 13, 24, 14, 15.
unfoldable pub strip_order : (S gridLength : ℕ) (o : Object) → List Rule
strip_order S gridLength o =
    right_after 11 (23 when side_above S)
    (right_after 13 (24 when some_of count_above o.counts)
    (drawing_order S gridLength o))

unfoldable pub strip_verdict : (S gridLength : ℕ) (o : Object) → Verdict
strip_verdict S gridLength o = first_that (strip_order S gridLength o)

-- The strip's drawing of a curve or a patch: the main path's, with the strip's order.
abbrev pub strip_drawing : (S : ℕ) → Object → Drawing
strip_drawing S o = judged_by (λ gridLength. strip_verdict S gridLength o) (drawing_of S o)

-- The strip does not take an object with a side: the side or a count is above its own.
unfoldable pub beyond : (S : ℕ) → Object → Bool
beyond S o = side_above S || some_of count_above o.counts

-- What the strip itself says of a call: it takes the object, or it refuses the call with a number.
abbrev pub Judges : (S gridLength : ℕ) (o : Object) → Verdict → Type 0
Judges S gridLength o accepted = beyond S o ≡ false
Judges S gridLength o (refused k) = strip_verdict S gridLength o ≡ refused k

-- The same of objects whatever their points and their choice.
pub record JudgesAll (S gridLength : ℕ) (object : (points : List ℕ) (choice : Choice) → Object) (v : Verdict) : Type 0 where
  pub each : (points : List ℕ) (choice : Choice) → Judges S gridLength (object points choice) v

-- The same of every object with these step counts, of which 13 lets up to `most` pass, and with this mark.
pub record JudgesCounts (S gridLength most : ℕ) (counts : List ℕ) (mark : ℕ) (v : Verdict) : Type 0 where
  pub is : (o : Object) → o.most ≡ most → o.counts ≡ counts → o.mark ≡ mark → Judges S gridLength o v
