-- What a `?` passes up.
use mathlib.Core.Path.{◌≡◌, ap}
use Rattle.std.specs.Prelude.{Result, Ok, Err, IsErrAnd}
use Rattle.decide.specs.declared.Refusal.{Refusal}

-- It is the refusal that was found.
pub passed_up : {A : Type 0} (r : Result A Refusal) (e : Refusal) → IsErrAnd r (λ d. d ≡ e) → r ≡ Err e
passed_up (Ok a) e h = absurd h
passed_up (Err d) e h = ap Err h
