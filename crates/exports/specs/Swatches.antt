-- Swatch calls from C: a kind and three numbers stand for a swatch; a cell is three bytes, and three channels twelve.
use Rattle.std.specs.Prelude.{◌≡◌, Bool, cond, ◌||◌, List, [], ◌∷◌, ◌++◌, ℕ, ◌/◌, ◌%◌, eqb, ltb, ℤ, Float, Result, Ok, Err}
use Rattle.std.specs.Float.{binary32}
use Rattle.std.specs.Float.Ieee.{to_bits}
use Rattle.decide.specs.declared.Refusal.{Refusal}
use Rattle.decide.specs.declared.Refusal.TheVariants as why
use Rattle.decide.specs.Refusal.{Rule, ◌when◌, first_that, accepted, refused}
use Rattle.channel.specs.declared.Rgb.{Rgb}
use Rattle.swatch.specs.declared.Cell.{Cell}
use Rattle.swatch.specs.declared.Swatch.{Swatch}
use Rattle.swatch.specs.declared.Swatch.TheVariants.{Color, Grey, Hue}
use Rattle.swatch.specs.Swatch.{channels_of}
use Rattle.swatch.specs.ToCell.{IsCell, cell_refusals}
use Rattle.swatch.specs.HalfWay.{IsHalfWay, half_way_refusals}
use Rattle.exports.specs.Signed.{signed, other_length}

-- Kind 0 is a colour of three channels, kind 2 hue, saturation and value, and any other a grey, which is the first number:
-- kind 1, since 53 refuses the rest.
abbrev pub swatch_of : (kind : ℕ) (a b c : Float) → Swatch
swatch_of kind a b c =
    cond (eqb kind 0) (Color (record { red = a; green = b; blue = c }))
    (cond (eqb kind 2) (Hue (record { hue = a; saturation = b; value = c })) (Grey a))

-- A kind of swatch that does not exist.
abbrev pub no_kind : (kind : ℕ) → Bool
no_kind kind = ltb 2 kind

-- The swatch of an existing kind, and else the refusal.
abbrev pub swatch_at : (kind : ℕ) (a b c : Float) → Result Swatch Refusal
swatch_at kind a b c = cond (no_kind kind) (Err why.Kind) (Ok (swatch_of kind a b c))

-- The four bytes of a channel, the low byte first.
abbrev pub channel_bytes : Float → List ℕ
channel_bytes v =
    let b = to_bits binary32 v in b % 256 ∷ b / 256 % 256 ∷ b / 65536 % 256 ∷ b / 16777216 % 256 ∷ []

-- Swatch to cell: 53 and 52 come first, then the call's own numbers.
abbrev pub cell_order : (S kind : ℕ) (w : Swatch) (cell : List ℕ) → List Rule
cell_order S kind w cell =
    53 when no_kind kind
    ∷ 52 when other_length 3 cell
    ∷ cell_refusals S w

-- Half-way: 53 for either kind and 52 come first, then the call's own numbers.
abbrev pub mix_order : (first second : ℕ) (v w : Swatch) (channels : List ℕ) → List Rule
mix_order first second v w channels =
    53 when (no_kind first || no_kind second)
    ∷ 52 when other_length 12 channels
    ∷ half_way_refusals v w

-- The bytes x y z of the cell of three channels.
pub record CellWritten (S : ℕ) (c : Rgb) (bytes : List ℕ) : Type 0 where
  pub cell : Cell
  pub right : IsCell S c cell
  pub written : bytes ≡ cell.x ∷ cell.y ∷ cell.z ∷ []

-- The bytes of the channels half-way between two times three.
pub record MixWritten (a b : Rgb) (bytes : List ℕ) : Type 0 where
  pub mixed : Rgb
  pub right : IsHalfWay a b mixed
  pub written : bytes ≡ channel_bytes mixed.red ++ channel_bytes mixed.green ++ channel_bytes mixed.blue

-- A call that fills an out-buffer: 0 and what it writes, or minus the first number of its order and the buffer as it was.
pub record Fills (order : List Rule) (Written : List ℕ → Type 0) (before after : List ℕ) (r : ℤ) : Type 0 where
  pub answer : r ≡ signed (first_that order) 0
  pub kept : (n : ℕ) → first_that order ≡ refused n → after ≡ before
  pub written : first_that order ≡ accepted → Written after

abbrev pub CellBytes : (S kind : ℕ) (w : Swatch) (cell cellNow : List ℕ) (r : ℤ) → Type 0
CellBytes S kind w cell cellNow r = Fills (cell_order S kind w cell) (CellWritten S (channels_of w)) cell cellNow r

abbrev pub MixBytes : (first second : ℕ) (v w : Swatch) (channels channelsNow : List ℕ) (r : ℤ) → Type 0
MixBytes first second v w channels channelsNow r =
    Fills (mix_order first second v w channels) (MixWritten (channels_of v) (channels_of w)) channels channelsNow r
