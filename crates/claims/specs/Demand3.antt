-- Demand 3, with "The words of demand 3" of document 01 and document 02's A.6, A.8, A.9, A.11 and A.13: one claim about a whole
-- list of calls that draw into one cube, over or under.
use Rattle.std.specs.Prelude.{◌≡◌, ◌⊎◌, ℕ, T, length, get_or}
use mathlib.Core.List.{List, [], ◌∷◌, ◌++◌, Memᴰ}
use Rattle.bezier.specs.Exact.{Sample}
use Rattle.decide.specs.Refusal.{accepted}
use Rattle.rounding.specs.Nearest.{within_half, NextTo}
use Rattle.neighbours.specs.Steps.{Neighbours}
use Rattle.cube.specs.Cube.{Axis, Cell, Inside, place, volume}
use Rattle.drawing.specs.declared.Choice.{Choice}
use Rattle.drawing.specs.declared.Choice.TheVariants.{Over, Under}
use Rattle.drawing.specs.Object.{Object, curve, patch, solid, scale_of, exact, cell_of}
use Rattle.drawing.specs.Drawing.{cells, Drawing, drawing_of, drawn_by, in_turn}
use Rattle.chosen.specs.Chosen.{chosen_curve, chosen_drawing}
use Rattle.path.specs.Path.{moves, path, ShareFace, within_one_and_aHalf, path_drawing}
use Rattle.strip.specs.Strip.{strip_drawing}

-- The list holds curve draws, patch draws, solid draws, curve draws with a chosen count, face-to-face curve draws, and curve
-- draws and patch draws on the strip, each with any side and any record. A draw with a chosen count has no n: its object is the
-- curve with the chosen one.
pub data Call : Type 0 where
  draw_curve : (side n : ℕ) (points : List ℕ) (mark : ℕ) (choice : Choice) → Call
  draw_patch : (side n m : ℕ) (points : List ℕ) (mark : ℕ) (choice : Choice) → Call
  draw_solid : (side n m l : ℕ) (points : List ℕ) (mark : ℕ) (choice : Choice) → Call
  draw_chosen : (side : ℕ) (points : List ℕ) (mark : ℕ) (choice : Choice) → Call
  draw_path : (side n : ℕ) (points : List ℕ) (mark : ℕ) (choice : Choice) → Call
  draw_strip_curve : (side n : ℕ) (points : List ℕ) (mark : ℕ) (choice : Choice) → Call
  draw_strip_patch : (side n m : ℕ) (points : List ℕ) (mark : ℕ) (choice : Choice) → Call

abbrev pub drawing_by : Call → Drawing
drawing_by (draw_curve side n points mark choice) = drawing_of side (curve n points mark choice)
drawing_by (draw_patch side n m points mark choice) = drawing_of side (patch n m points mark choice)
drawing_by (draw_solid side n m l points mark choice) = drawing_of side (solid n m l points mark choice)
drawing_by (draw_chosen side points mark choice) = chosen_drawing side points mark choice
drawing_by (draw_path side n points mark choice) = path_drawing side (curve n points mark choice)
drawing_by (draw_strip_curve side n points mark choice) = strip_drawing side (curve n points mark choice)
drawing_by (draw_strip_patch side n m points mark choice) = strip_drawing side (patch n m points mark choice)

abbrev pub object_of : Call → Object
object_of (draw_curve side n points mark choice) = curve n points mark choice
object_of (draw_patch side n m points mark choice) = patch n m points mark choice
object_of (draw_solid side n m l points mark choice) = solid n m l points mark choice
object_of (draw_chosen side points mark choice) = chosen_curve points mark choice
object_of (draw_path side n points mark choice) = curve n points mark choice
object_of (draw_strip_curve side n points mark choice) = curve n points mark choice
object_of (draw_strip_patch side n m points mark choice) = patch n m points mark choice

-- Of face-to-face curves the accuracy rule says the one thing, and of every other kind the other.
abbrev pub by_kind : Call → (ofPaths ofOthers : Type 0) → Type 0
by_kind (draw_curve side n points mark choice) ofPaths ofOthers = ofOthers
by_kind (draw_patch side n m points mark choice) ofPaths ofOthers = ofOthers
by_kind (draw_solid side n m l points mark choice) ofPaths ofOthers = ofOthers
by_kind (draw_chosen side points mark choice) ofPaths ofOthers = ofOthers
by_kind (draw_path side n points mark choice) ofPaths ofOthers = ofPaths
by_kind (draw_strip_curve side n points mark choice) ofPaths ofOthers = ofOthers
by_kind (draw_strip_patch side n m points mark choice) ofPaths ofOthers = ofOthers

-- The grid after a list of calls, refused ones included.
unfoldable pub run : List Call → List ℕ → List ℕ
run = in_turn (λ call. drawn_by (drawing_by call))

-- An object is accepted if no number in its own call's drawing order applies, judged by the arguments and the grid's
-- length alone.
abbrev pub Accepted : (gridLength : ℕ) → Call → Type 0
Accepted gridLength call = (drawing_by call).verdict gridLength ≡ accepted

-- A sample lies within half a cell of a cell on every axis.
abbrev pub SampleNear : (o : Object) (sample : List ℕ) (c : Cell) → Type 0
SampleNear o sample c = (a : Axis) → T (within_half (scale_of o) (c a) (exact o a sample))

-- A cell has an exact sample of the object within half a cell on every axis.
pub record NearSample (o : Object) (c : Cell) : Type 0 where
  pub sample : List ℕ
  pub is_sample : Sample o.counts sample
  pub is_near : SampleNear o sample c

-- A cell is inserted between the cells of two neighbouring samples: it is written after a move from the one to the other, and
-- is not the other.
pub record Inserted (o : Object) (sample next : List ℕ) (c : Cell) : Type 0 where
  pub are_neighbours : Neighbours o.counts sample next
  pub is_a_move : Memᴰ c (moves (cell_of o sample) (cell_of o next))
  pub not_the_next : ¬ (c ≡ cell_of o next)

-- A sample lies within one and a half of a cell on every axis.
abbrev pub SampleWithinOneAndAHalf : (o : Object) (sample : List ℕ) (c : Cell) → Type 0
SampleWithinOneAndAHalf o sample c = (a : Axis) → T (within_one_and_aHalf (scale_of o) (c a) (exact o a sample))

-- A cell is an inserted one within one and a half on every axis of the sample before it.
pub record NearInserted (o : Object) (c : Cell) : Type 0 where
  pub sample : List ℕ
  pub next : List ℕ
  pub inserted : Inserted o sample next c
  pub is_near : SampleWithinOneAndAHalf o sample c

-- A cell is near a call's object: within half a cell of a sample or, of a face-to-face curve only, an inserted one.
abbrev pub Near : Call → Cell → Type 0
Near call c = by_kind call (NearSample (object_of call) c ⊎ NearInserted (object_of call) c) (NearSample (object_of call) c)

-- A byte is the mark of an accepted object of the list that the cell is near to.
pub record MarkOfNearObject (gridLength : ℕ) (calls : List Call) (c : Cell) (byte : ℕ) : Type 0 where
  pub call : Call
  pub of_the_list : Memᴰ call calls
  pub is_accepted : Accepted gridLength call
  pub its_mark : byte ≡ (object_of call).mark
  pub is_near : Near call c

-- What an object with this mark that goes under leaves in a cell: a mark, its own if the cell was unmarked, and the earlier
-- one if it was marked.
pub record MarkedFromUnder (mark held byte : ℕ) : Type 0 where
  pub is_marked : ¬ (byte ≡ 0)
  pub its_mark : held ≡ 0 → byte ≡ mark
  pub earlier_mark : ¬ (held ≡ 0) → byte ≡ held

-- A cell holds the object's mark, if the object went over. If it went under, the cell is marked, though the mark may be an
-- earlier one: in place of "holding its mark", and only then.
pub record Holds (S : ℕ) (o : Object) (grid gridAfter : List ℕ) (c : Cell) : Type 0 where
  pub over_its_mark : o.choice ≡ Over → get_or gridAfter (place S c) 0 ≡ o.mark
  pub under_a_mark : o.choice ≡ Under →
      MarkedFromUnder o.mark (get_or grid (place S c) 0) (get_or gridAfter (place S c) 0)

-- An object in any number of parameters (document 02, A.13) and a cube of side S: every one of its exact samples has its cell in
-- the cube, within half a cell on every axis; and two cells that follow one another, those of neighbours along whichever
-- parameter (A.4), differ by at most one on every axis.
pub record Accurate (S : ℕ) (o : Object) : Type 0 where
  pub in_the_cube : {sample : List ℕ} → Sample o.counts sample → Inside S (cell_of o sample)
  pub within_half_a_cell : {sample : List ℕ} → Sample o.counts sample → SampleNear o sample (cell_of o sample)
  pub by_at_most_one : {sample next : List ℕ} → Neighbours o.counts sample next → (a : Axis) →
      NextTo (cell_of o sample a) (cell_of o next a)

-- Just after an object is drawn into a cube of side S, over or under: every one of its exact samples has its cell in the
-- cube, within half a cell on every axis, holding its mark; and two cells that follow one another, those of neighbours along
-- whichever parameter (document 02, A.4), differ by at most one on every axis.
pub record JustDrawn (S : ℕ) (o : Object) (grid gridAfter : List ℕ) : Type 0 where
  pub in_the_cube : {sample : List ℕ} → Sample o.counts sample → Inside S (cell_of o sample)
  pub within_half_a_cell : {sample : List ℕ} → Sample o.counts sample → SampleNear o sample (cell_of o sample)
  pub holding_its_mark : {sample : List ℕ} → Sample o.counts sample → Holds S o grid gridAfter (cell_of o sample)
  pub by_at_most_one : {sample next : List ℕ} → Neighbours o.counts sample next → (a : Axis) →
      NextTo (cell_of o sample a) (cell_of o next a)

-- Just after a face-to-face curve is drawn: the same of its samples; every inserted cell lies in the cube, within one and a half
-- of the sample before it on every axis, and holds the mark; and neighbouring cells of its path share a face.
pub record PathJustDrawn (S : ℕ) (o : Object) (grid gridAfter : List ℕ) : Type 0 where
  pub samples : JustDrawn S o grid gridAfter
  pub inserted_in_the_cube : {sample next : List ℕ} {c : Cell} → Inserted o sample next c → Inside S c
  pub within_one_and_a_half : {sample next : List ℕ} {c : Cell} → Inserted o sample next c → SampleWithinOneAndAHalf o sample c
  pub inserted_holding_its_mark : {sample next : List ℕ} {c : Cell} → Inserted o sample next c → Holds S o grid gridAfter c
  pub share_a_face : (before after : List Cell) (c d : Cell) → path (cells o) ≡ before ++ c ∷ d ∷ after → ShareFace c d

-- What is said just after a call.
abbrev pub After : Call → (S : ℕ) (grid gridAfter : List ℕ) → Type 0
After call S grid gridAfter =
    by_kind call (PathJustDrawn S (object_of call) grid gridAfter) (JustDrawn S (object_of call) grid gridAfter)

-- The two sentences of demand 3, for a list of calls into a cube of side S that holds the bytes `start`.
pub record Demand3 (S : ℕ) (start : List ℕ) (calls : List Call) : Type 0 where
  -- After the list, each cell holds what it held at the start, or the mark of an accepted object near it.
  pub each_cell : (c : Cell) → Inside S c →
      (get_or (run calls start) (place S c) 0 ≡ get_or start (place S c) 0) ⊎
      MarkOfNearObject (length start) calls c (get_or (run calls start) (place S c) 0)
  -- Just after each accepted object of the list, wherever it stands in it.
  pub each_object : (before after : List Call) (call : Call) → calls ≡ before ++ call ∷ after →
      Accepted (length start) call → After call S (run before start) (run (before ++ call ∷ []) start)

-- Demand 3: for every list of calls and whatever bytes the cube held at the start.
pub record Claim : Type 0 where
  pub demand_3 : (S : ℕ) (start : List ℕ) → length start ≡ volume S → (calls : List Call) → Demand3 S start calls
