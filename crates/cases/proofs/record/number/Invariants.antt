-- `number` meets its contract: after i digits the value is that of the first i, which i digits can hold.
use Rattle.std.proofs.Common.{◌≡◌, ℕ, ◌+◌, ◌*◌, ◌^◌, ◌<◌, ◌≤◌, List, get_or, add-one, arith}
use native.Mathlib.Nat.{pow-le-pow_right}
use Rattle.cases.specs.Record.{digit_of, value_at}
use Rattle.cases.proofs.record.number.Given as goal

pub value_at_more : (s : List ℕ) (at i : ℕ) → value_at s at (i + 1) ≡ value_at s at i * 16 + digit_of (get_or s (at + i) 0)
unfolding value_at
value_at_more s at i = rw add-one

-- Seven digits or less leave room for one more.
pub room : (value i : ℕ) → i < 8 → value < 16 ^ i → value < 268435456
room value i h v =
    let p : 16 ^ i ≤ 16 ^ 7 = pow-le-pow_right {n = 16} (omega arith) {j = 7} (omega arith) in
    omega arith

abbrev pub invariant-loop-i : goal.invariant-loop-i
invariant-loop-i l = (l.i ≤ 8) × (l.value ≡ value_at l.case l.at l.i) × (l.value < 16 ^ l.i)
