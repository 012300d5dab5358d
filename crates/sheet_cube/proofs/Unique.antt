-- The contract fixes the answer and what the buffer holds afterwards.
use Rattle.std.proofs.Common.{◌≡◌, refl, sym, ◌∙◌, ap₂, List, ℕ, Result, Ok, Err, arith}
use Rattle.decide.specs.Verdict.{number_of}
use Rattle.decide.proofs.Unique.{number_unique}
use Rattle.sheet_cube.specs.declared.Sheet.{Sheet}
use Rattle.sheet_cube.specs.declared.LineRefusal.{LineRefusal}
use Rattle.sheet_cube.specs.Answer.{said_of, DrawsSheet}

-- One answer says one thing.
said_unique : (r s : Result Sheet LineRefusal) → said_of r ≡ said_of s → r ≡ s
said_unique (Ok a) (Ok b) e =
    let side : a.side ≡ b.side = cc in
    let curves : a.curves ≡ b.curves = cc in
    let fresh : a.new_cells ≡ b.new_cells = cc in
    rw (side, curves, fresh) refl
said_unique (Ok a) (Err d) e = let z : ◌≡◌ {A = ℕ} 0 1 = cc in absurd (omega arith)
said_unique (Err d) (Ok b) e = let z : ◌≡◌ {A = ℕ} 0 1 = cc in absurd (omega arith)
said_unique (Err d) (Err f) e =
    let number : number_of d.refusal ≡ number_of f.refusal = cc in
    let line : d.line ≡ f.line = cc in
    ap₂ (λ r k. Err (record { refusal = r; line = k })) (number_unique d.refusal f.refusal number) line

module _ {input buffer a b : List ℕ} {r s : Result Sheet LineRefusal} (d : DrawsSheet input buffer a r) (e : DrawsSheet input buffer b s) where
  pub sheet_answer_unique : r ≡ s
  sheet_answer_unique = said_unique r s (d.answer ∙ sym e.answer)

  pub sheet_buffer_unique : a ≡ b
  sheet_buffer_unique = d.leaves ∙ sym e.leaves
