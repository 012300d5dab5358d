-- `run` meets its contract: where the calls of the turns that are left end in a state, all calls do.
use Rattle.cases.specs.Block.{Ran}
use Rattle.cases.proofs.run.run.Given as goal

abbrev pub invariant-loop-turns : goal.invariant-loop-turns
invariant-loop-turns g l =
    goal.F-IsAlwaysCallable g l.next ×
    ((last : _) → Ran (λ f r h. goal.F-step g f r h) l.turns.left l.next last →
    Ran (λ f r h. goal.F-step g f r h) 18446744073709551615 l.initial.next last)

abbrev pub decreases-loop-turns : goal.decreases-loop-turns
decreases-loop-turns g l = l.turns.left
