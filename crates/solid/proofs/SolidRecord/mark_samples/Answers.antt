-- `mark_samples` meets its contract: the number of samples fits.
use Rattle.std.proofs.Common.{arith, ◌≡◌, ℕ, ◌+◌, ◌*◌, ◌≤◌}
use native.Mathlib.Nat.{mul-le-mul}
use lib.Dec.{lit<}
use Rattle.decide.specs.Refusal.{accepted}
use Rattle.drawing.specs.Refusals.{draw_verdict, sample_count}
use Rattle.drawing.proofs.Accepted.{draw_accepted}
use Rattle.solid.specs.declared.Solid.{Solid}
use Rattle.solid.specs.Solid.{solid_of}
use Rattle.solid.proofs.SolidRecord.mark_samples.Goals as goal

-- The counts of a drawn solid, and the number of its samples: of a slice, and of all.
counts : (S : ℕ) (s : Solid) (len : ℕ) → draw_verdict S len (solid_of s) ≡ accepted →
    (s.n ≤ 32) × (s.m ≤ 32) × (s.l ≤ 32)
counts S s len e =
    let d = ((draw_accepted S (solid_of s) len).0 e).0 in
    (d.count_most 0 (lit< tt), d.count_most 1 (lit< tt), d.count_most 2 (lit< tt))

slice_samples : {n m : ℕ} → n ≤ 32 → m ≤ 32 → (n + 1) * (m + 1) ≤ 1089
slice_samples {n} {m} hn hm =
    let h : n + 1 ≤ 33 = omega arith in
    let k : m + 1 ≤ 33 = omega arith in
    mul-le-mul h k

all_samples : {n m l : ℕ} → n ≤ 32 → m ≤ 32 → l ≤ 32 → (n + 1) * (m + 1) * (l + 1) ≤ 35937
all_samples {l = l} hn hm hl = let k : l + 1 ≤ 33 = omega arith in mul-le-mul (slice_samples hn hm) k

pub overflow_add-answer : goal.overflow_add-answer
overflow_add-answer c = let n = counts c.args.side c.args.self.now _ c.requires in record { fits = omega arith }

pub overflow_add-answer-2 : goal.overflow_add-answer-2
overflow_add-answer-2 c = let n = counts c.args.side c.args.self.now _ c.requires in record { fits = omega arith }

pub overflow_mul-answer : goal.overflow_mul-answer
overflow_mul-answer c =
    let n = counts c.args.side c.args.self.now _ c.requires in record { fits = omega (arith, slice_samples n.0 n.1) }

pub overflow_add-answer-3 : goal.overflow_add-answer-3
overflow_add-answer-3 c = let n = counts c.args.side c.args.self.now _ c.requires in record { fits = omega arith }

pub overflow_mul-answer-2 : goal.overflow_mul-answer-2
overflow_mul-answer-2 c =
    let n = counts c.args.side c.args.self.now _ c.requires in record { fits = omega (arith, all_samples n.0 n.1 n.2) }

pub returns-clause-answer_value : goal.returns-clause-answer_value
unfolding sample_count
returns-clause-answer_value c = omega arith
