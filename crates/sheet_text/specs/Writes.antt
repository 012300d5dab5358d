-- What a call answers, and what it leaves in the text that is lent to it.
use Rattle.std.specs.Prelude.{◌≡◌, List, ℕ, length, Result}
use Rattle.decide.specs.declared.Refusal.{Refusal}
use Rattle.decide.specs.Refusal as refusal
use Rattle.decide.specs.Refusal.{Verdict, outcome}
use Rattle.decide.specs.Verdict.{outcome_of}
use Rattle.sheet.specs.Part.{over}

-- A call with the given verdict that writes the bytes: its answer, the number of bytes or the number that refuses the call,
-- and what the text holds afterwards, the bytes and then what it held, or, refused, what it held.
pub record Writes (v : Verdict) (bytes text after : List ℕ) (r : Result ℕ Refusal) : Type 0 where
  pub answer : outcome_of r ≡ outcome v (length bytes)
  pub leaves : after ≡ refusal.leaves v (over bytes text) text
