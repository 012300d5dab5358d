-- What a sheet call's answer says in document 01's words, and what the call leaves in the lent buffer.
use Rattle.std.specs.Prelude.{◌≡◌, List, ℕ, Result, Ok, Err}
use Rattle.decide.specs.Verdict.{number_of}
use Rattle.sheet.specs.Call.{judge_call, Said, drew, refused, said, buffer_after}
use Rattle.sheet_cube.specs.declared.Sheet.{Sheet}
use Rattle.sheet_cube.specs.declared.LineRefusal.{LineRefusal}

-- The side, the number of curve lines and the sum of their new cells, or the number and the line.
abbrev pub said_of : Result Sheet LineRefusal → Said
said_of (Ok s) = drew s.side s.curves s.new_cells
said_of (Err r) = refused (number_of r.refusal) r.line

-- A sheet call: its answer, and what the buffer holds afterwards.
pub record DrawsSheet (input buffer bufferNow : List ℕ) (r : Result Sheet LineRefusal) : Type 0 where
  pub answer : said_of r ≡ said (judge_call input buffer)
  pub leaves : bufferNow ≡ buffer_after (judge_call input buffer) buffer
