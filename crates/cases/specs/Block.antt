-- How a run goes on.
use Rattle.std.specs.Prelude.{◌≡◌, ℕ, suc, Bool, true, false, List, slice_index, Result, Ok, Err}
use Rattle.cases.specs.declared.run.Stop.{Stop}
use Rattle.cases.specs.Record.{Formed}

-- Whether there is more to answer.
abbrev pub is_more : Result (Unit {0}) Stop → Bool
is_more (Ok u) = true
is_more (Err stop) = false

-- The calls of a run, one after the other. Each but the last answers that there is more, and the last that the run stops,
-- or so many turns are used up.
pub data Ran {F : Type 0} (call : F → Result (Unit {0}) Stop → F → Type 0) : (turns : ℕ) (next last : F) → Type 0 where
  used_up : {next : F} → Ran call 0 next next
  stopped : {turns : ℕ} {next last : F} {stop : Stop} → call next (Err stop) last → Ran call (suc turns) next last
  more : {turns : ℕ} {next then last : F} → call next (Ok tt) then → Ran call turns then last → Ran call (suc turns) next last

-- Where the run goes on after a heading was read, it is a record with the given letter.
abbrev pub Headed : (letter : ℕ) (heading : List ℕ) → Result (Unit {0}) Stop → Type 0
Headed letter heading (Ok u) = (slice_index heading 0 ≡ letter) × Formed heading
Headed letter heading (Err stop) = Unit {0}
