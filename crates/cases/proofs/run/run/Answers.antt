-- `run` meets its contract: a call after which the run goes on is one more, and one that stops it is the last.
use Rattle.std.proofs.Common.{◌≡◌, ℕ, zero, suc, ◌-◌, ◌<◌, cond, Result, Ok, Err, refl, subst, arith, of_calls}
use Rattle.cases.specs.declared.run.Stop.{Stop}
use Rattle.cases.specs.Block.{is_more, Ran, used_up, stopped, more}
use Rattle.cases.proofs.run.run.Goals as goal

-- With no turns left there is no call.
no_call : {F : Type 0} {call : F → Result (Unit {0}) Stop → F → Type 0} {turns : ℕ} {next last : F} → turns ≡ 0 →
    Ran call turns next last → next ≡ last
no_call e used_up = refl
no_call e (stopped s) = absurd (omega (arith, e))
no_call e (more s ran) = absurd (omega (arith, e))

-- A call, and those of the turns that are left after it.
one_more : {F : Type 0} {call : F → Result (Unit {0}) Stop → F → Type 0} (left after : ℕ) {next then last : F} (r : Result (Unit {0}) Stop) →
    0 < left → after ≡ cond (is_more r) (left - 1) 0 → call next r then → Ran call after then last → Ran call left next last
one_more zero after r some e s ran = absurd (omega (arith, some))
one_more {call = call} (suc k) after {then = then} {last = last} (Ok u) some e s ran =
    let same : after ≡ k = omega (arith, e) in more s (subst (λ n. Ran call n then last) same ran)
one_more {call = call} (suc k) after {next = next} (Err stop) some e s ran =
    subst (λ l. Ran call (suc k) next l) (no_call e ran) (stopped s)

pub loop-turns-preserved : goal.loop-turns-preserved
loop-turns-preserved g c =
    let l = c.loop-turns in
    (search of_calls, λ last ran. l.invariant.1 last (one_more l.turns.left _ c.next.result c.loop-turns-test.true c.after-turns.ensures.stops c.next.ensures ran))

pub returns : goal.returns
returns g c =
    let l = c.loop-turns in
    let none : l.turns.left ≡ 0 = omega (arith, c.loop-turns-test.false) in
    (l.next, l.invariant.1 l.next (rw none used_up))
