-- Document 01's "swatch to cell": what each answer says.
use Rattle.std.specs.Prelude.{ℕ, ◌≡◌, List, ◌∷◌, Result, Ok, Err}
use Rattle.cube.specs.Cube.{side_out}
use Rattle.decide.specs.Refusal.{Rule, ◌when◌, first_that, accepted, refused}
use Rattle.decide.specs.declared.Refusal.{Refusal}
use Rattle.decide.specs.Verdict.{number_of}
use Rattle.channel.specs.declared.Rgb.{Rgb}
use Rattle.swatch.specs.declared.Cell.{Cell}
use Rattle.swatch.specs.declared.Swatch.{Swatch}
use Rattle.channel.specs.Coordinate.{coordinate_of}
use Rattle.swatch.specs.Swatch.{channels_of, swatch_refusals}

-- 11, then the swatch's.
abbrev pub cell_refusals : ℕ → Swatch → List Rule
cell_refusals S w =
    11 when side_out S
    ∷ swatch_refusals w

-- Red, green, blue become x, y, z.
pub record IsCell (S : ℕ) (c : Rgb) (r : Cell) : Type 0 where
  pub x : r.x ≡ coordinate_of S c.red
  pub y : r.y ≡ coordinate_of S c.green
  pub z : r.z ≡ coordinate_of S c.blue

-- No number applies, and r is the cell of the swatch's channels.
pub record AcceptedCell (S : ℕ) (w : Swatch) (r : Cell) : Type 0 where
  pub no_number : first_that (cell_refusals S w) ≡ accepted
  pub cell : IsCell S (channels_of w) r

-- What an answer says: the first number that applies, or that none does and the cell.
abbrev pub CellSays : ℕ → Swatch → Result Cell Refusal → Type 0
CellSays S w (Err e) = first_that (cell_refusals S w) ≡ refused (number_of e)
CellSays S w (Ok r) = AcceptedCell S w r
