-- The contract of the count alone fixes its answer.
use mathlib.Core.Path.{◌≡◌}
use Prim.Native.Nat.{ℕ}
use Rattle.std.specs.Prelude.{Result}
use Rattle.decide.specs.declared.Refusal.{Refusal}
use Rattle.decide.specs.Verdict.{outcome_of}
use Rattle.decide.proofs.Unique.{outcome_unique}

pub count_answer_unique : (r s : Result ℕ Refusal) → outcome_of r ≡ outcome_of s → r ≡ s
count_answer_unique = outcome_unique
