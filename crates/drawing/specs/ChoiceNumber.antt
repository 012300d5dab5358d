-- A choice as C passes it, by a number.
use Rattle.std.specs.Prelude.{ℕ, zero, suc, Result, Ok, Err}
use Rattle.decide.specs.declared.Refusal.{Refusal}
use Rattle.decide.specs.declared.Refusal.TheVariants as why
use Rattle.drawing.specs.declared.Choice.{Choice}
use Rattle.drawing.specs.declared.Choice.TheVariants.{Over, Under}

-- 0 is over and 1 under; any other number is no choice.
abbrev pub choice_at : (number : ℕ) → Result Choice Refusal
choice_at zero = Ok Over
choice_at (suc zero) = Ok Under
choice_at (suc (suc k)) = Err why.Choice
