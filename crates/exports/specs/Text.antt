-- Calls that write text, with a signed answer: the number of bytes, or minus the refusal's number.
use Rattle.std.specs.Prelude.{◌≡◌, List, ℕ, ◌^◌, ◌<◌, ℤ, length, Result, Ok, Err}
use Rattle.decide.specs.Refusal as refusal
use Rattle.decide.specs.Refusal.{Verdict}
use Rattle.sheet.specs.Part.{over}
use Rattle.decide.specs.declared.Refusal.{Refusal}
use Rattle.exports.specs.Signed.{signed}

-- A number of bytes that 32 bits hold.
abbrev pub SmallWritten : Result ℕ Refusal → Type 0
SmallWritten (Ok n) = n < 2 ^ 32
SmallWritten (Err e) = Unit

-- The signed answer, and what the text holds afterwards.
pub record WritesSigned (v : Verdict) (bytes text textNow : List ℕ) (r : ℤ) : Type 0 where
  pub answer : r ≡ signed v (length bytes)
  pub leaves : textNow ≡ refusal.leaves v (over bytes text) text
