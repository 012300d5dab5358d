-- `mark_samples` meets its contract: the number of samples fits.
use Rattle.std.proofs.Common.{arith, ◌≡◌, ℕ, ◌+◌, ◌*◌, ◌≤◌}
use native.Mathlib.Nat.{mul-le-mul}
use lib.Dec.{lit<}
use Rattle.decide.specs.Refusal.{accepted}
use Rattle.drawing.specs.Refusals.{draw_verdict, sample_count}
use Rattle.drawing.proofs.Accepted.{draw_accepted}
use Rattle.patch.specs.declared.Patch.{Patch}
use Rattle.patch.specs.Patch.{patch_of}
use Rattle.patch.proofs.PatchRecord.mark_samples.Goals as goal

-- The counts of a drawn patch, and the number of its samples.
counts : (S : ℕ) (p : Patch) (len : ℕ) → draw_verdict S len (patch_of p) ≡ accepted → (p.n ≤ 256) × (p.m ≤ 256)
counts S p len e = let d = ((draw_accepted S (patch_of p) len).0 e).0 in (d.count_most 0 (lit< tt), d.count_most 1 (lit< tt))

few : {n m : ℕ} → n ≤ 256 → m ≤ 256 → (n + 1) * (m + 1) ≤ 257 * 257
few {n} {m} hn hm =
    let h : n + 1 ≤ 257 = omega arith in
    let k : m + 1 ≤ 257 = omega arith in
    mul-le-mul h k

pub overflow_add-answer : goal.overflow_add-answer
overflow_add-answer c = let n = counts c.args.side c.args.self.now _ c.requires in record { fits = omega arith }

pub overflow_add-answer-2 : goal.overflow_add-answer-2
overflow_add-answer-2 c = let n = counts c.args.side c.args.self.now _ c.requires in record { fits = omega arith }

pub overflow_mul-answer : goal.overflow_mul-answer
overflow_mul-answer c =
    let n = counts c.args.side c.args.self.now _ c.requires in record { fits = omega (arith, few n.0 n.1) }

pub returns-clause-answer_value : goal.returns-clause-answer_value
unfolding sample_count
returns-clause-answer_value c = omega arith
