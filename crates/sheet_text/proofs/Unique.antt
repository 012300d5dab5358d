-- The contracts fix answer and text: of two runs of a call with a verdict and bytes, both are the same.
use mathlib.Core.Path.{◌≡◌, sym, ◌∙◌}
use mathlib.Core.List.{List}
use Prim.Native.Nat.{ℕ}
use Rattle.std.specs.Prelude.{Result}
use Rattle.decide.specs.declared.Refusal.{Refusal}
use Rattle.decide.specs.Refusal.{Verdict}
use Rattle.decide.proofs.Unique.{outcome_unique}
use Rattle.sheet_text.specs.Writes.{Writes}

pub writes_unique : {v : Verdict} {bytes text a b : List ℕ} {r s : Result ℕ Refusal} →
    Writes v bytes text a r → Writes v bytes text b s → (r ≡ s) × (a ≡ b)
writes_unique p q = (outcome_unique _ _ (p.answer ∙ sym q.answer), p.leaves ∙ sym q.leaves)
