-- `is_reversed` meets its contract: every cell that was passed is the other's, and the first that is not ends the search.
use Rattle.std.proofs.Common.{◌≡◌, ℕ, ◌+◌, ◌*◌, ◌-◌, T, sym, subst, below_more, arith}
use Rattle.flip.specs.Listings.{SameCell}
use Rattle.both_ways.proofs.is_reversed.Goals as goal

pub loop-i-preserved : goal.loop-i-preserved
loop-i-preserved c =
    let s = c.args in
    let l = c.loop-i in
    let same = c.same_cell.ensures.0 (subst T (sym c.if-not-same_cell.false) tt) in
    let here : (k : ℕ) → l.i + k + 1 ≡ s.count → SameCell _ (3 * l.i) _ (3 * k) =
    λ k h. let last : s.count - 1 - l.i ≡ k = omega arith in rw last at same in
    below_more _ _ l.invariant here

pub returns : goal.returns
returns c =
    let l = c.loop-i in
    (λ t. record { room = omega arith; space = omega arith; cells = λ i k h. l.invariant i (omega arith) k h }, λ r. tt)
