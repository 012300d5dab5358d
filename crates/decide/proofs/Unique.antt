-- A verdict by its number fixes what a check finds, and an outcome what a call answers.
use mathlib.Core.Path.{◌≡◌, refl, sym, ap, ◌∙◌}
use Prim.Native.Nat.{ℕ}
use native.Mathlib.Omega.{arith}
use Rattle.std.specs.Prelude.{cond, eqb, Result, Ok, Err}
use Rattle.decide.specs.declared.Refusal.{Refusal}
use Rattle.decide.specs.declared.Refusal.TheVariants as why
use Rattle.decide.specs.Verdict.{number_of, verdict_of, outcome_of}

-- The refusal of a number; any of them where there is none.
refusal_of : ℕ → Refusal
refusal_of k =
    cond (eqb k 11) why.Side (
    cond (eqb k 12) why.Mark (
    cond (eqb k 13) why.Steps (
    cond (eqb k 14) why.Coordinate (
    cond (eqb k 15) why.LongStep (
    cond (eqb k 21) why.Length (
    cond (eqb k 22) why.Short (
    cond (eqb k 23) why.StripSide (
    cond (eqb k 24) why.StripSteps (
    cond (eqb k 31) why.NotFinite (
    cond (eqb k 32) why.Channel (
    cond (eqb k 33) why.Hue (
    cond (eqb k 41) why.Line (
    cond (eqb k 42) why.Field (
    cond (eqb k 43) why.SheetSide (
    cond (eqb k 44) why.PastLastLine (
    cond (eqb k 51) why.RecordLength (
    cond (eqb k 52) why.OutLength (
    cond (eqb k 53) why.Kind (
    cond (eqb k 54) why.Number (
    why.Choice))))))))))))))))))))

refusal_of_number : (e : Refusal) → refusal_of (number_of e) ≡ e
unfolding refusal_of
refusal_of_number why.Side = refl
refusal_of_number why.Mark = refl
refusal_of_number why.Steps = refl
refusal_of_number why.Coordinate = refl
refusal_of_number why.LongStep = refl
refusal_of_number why.Length = refl
refusal_of_number why.Short = refl
refusal_of_number why.StripSide = refl
refusal_of_number why.StripSteps = refl
refusal_of_number why.NotFinite = refl
refusal_of_number why.Channel = refl
refusal_of_number why.Hue = refl
refusal_of_number why.Line = refl
refusal_of_number why.Field = refl
refusal_of_number why.SheetSide = refl
refusal_of_number why.PastLastLine = refl
refusal_of_number why.RecordLength = refl
refusal_of_number why.OutLength = refl
refusal_of_number why.Kind = refl
refusal_of_number why.Number = refl
refusal_of_number why.Choice = refl

-- Two refusals with one number are the same.
pub number_unique : (d e : Refusal) → number_of d ≡ number_of e → d ≡ e
number_unique d e p = sym (refusal_of_number d) ∙ (ap refusal_of p ∙ refusal_of_number e)

module _ {A : Type 0} where
  pub outcome_unique : (r s : Result A Refusal) → outcome_of r ≡ outcome_of s → r ≡ s
  outcome_unique (Ok a) (Ok b) e = cc
  outcome_unique (Ok a) (Err d) e = let z : ◌≡◌ {A = ℕ} 0 1 = cc in absurd (omega arith)
  outcome_unique (Err d) (Ok b) e = let z : ◌≡◌ {A = ℕ} 0 1 = cc in absurd (omega arith)
  outcome_unique (Err d) (Err e) p = let q : number_of d ≡ number_of e = cc in ap Err (number_unique d e q)

pub verdict_unique : (v w : Result (Unit {0}) Refusal) → verdict_of v ≡ verdict_of w → v ≡ w
verdict_unique (Ok a) (Ok b) e = refl
verdict_unique (Ok a) (Err d) e = let z : ◌≡◌ {A = ℕ} 0 1 = cc in absurd (omega arith)
verdict_unique (Err d) (Ok b) e = let z : ◌≡◌ {A = ℕ} 0 1 = cc in absurd (omega arith)
verdict_unique (Err d) (Err e) p = let q : number_of d ≡ number_of e = cc in ap Err (number_unique d e q)
