-- The contract of a check fixes its answer.
use mathlib.Core.Path.{◌≡◌, refl, sym, ◌∙◌, ap}
use Prim.Native.Nat.{ℕ}
use native.Mathlib.Omega.{arith}
use Rattle.std.specs.Prelude.{cond, Result, Ok, Err}
use Rattle.decide.specs.declared.Refusal.{Refusal}
use Rattle.decide.specs.Verdict.{number_of}
use Rattle.decide.proofs.Unique.{number_unique}
use Rattle.curve.specs.declared.steps.StepTest.{StepTest}
use Rattle.curve.specs.declared.steps.StepTest.TheVariants.{Walked, Quit}
use Rattle.curve.specs.Curve.{has_quit, check_answer_of}

-- What the test told, by whether it quit.
told_by : (a : StepTest) → cond (has_quit a) Quit Walked ≡ a
told_by Walked = refl
told_by Quit = refl

pub check_answer_unique : (r s : Result StepTest Refusal) → check_answer_of r ≡ check_answer_of s → r ≡ s
check_answer_unique (Ok a) (Ok b) e =
    let same : has_quit a ≡ has_quit b = cc in
    ap Ok (sym (told_by a) ∙ ap (λ q. cond q Quit Walked) same ∙ told_by b)
check_answer_unique (Ok a) (Err d) e = let z : ◌≡◌ {A = ℕ} 0 1 = cc in absurd (omega arith)
check_answer_unique (Err d) (Ok b) e = let z : ◌≡◌ {A = ℕ} 0 1 = cc in absurd (omega arith)
check_answer_unique (Err d) (Err f) e = let same : number_of d ≡ number_of f = cc in ap Err (number_unique d f same)
