-- The first 14207 bytes of an input decide its output: 6 bytes of line 1, 71 of each of 200 curve lines, and one more.
use mathlib.Core.Path.{◌≡◌, refl, sym, ◌∙◌, ap}
use mathlib.Core.Logic.{⊎_elim}
use mathlib.Core.Bool.{true}
use mathlib.Core.List.{List}
use Prim.Native.Nat.{ℕ, zero, suc, ◌+◌, ◌*◌, ◌≤◌, ◌<◌}
use native.Mathlib.Omega.{arith}
use lib.Dec.{ltb, lit<}
use lib.ListN.{length, take, drop, length-drop}
use lib.Seq.{take_all, take-add, drop_at, length-take-le}
use Rattle.decide.specs.Refusal.{accepted, refused, first_that}
use Rattle.decide.proofs.FirstThat.{by_verdict}
use Rattle.decide.proofs.Truth.{decided, less, not_less}
use Rattle.sheet.proofs.Sheet.{too_many_lines}
use borrow.Author.Tests.{ne_eqb}
use Rattle.sheet.specs.Line.{lines, is_wrong, number}
use Rattle.sheet.specs.Sheet.{side_order, curve_order, Judged, good, bad, judge_curves, judge}
use Rattle.sheet.specs.Printed.{printed, output}
use Rattle.sheet_lines.specs.Read.{first_line}
use Rattle.sheet_cube.proofs.Chunks.{first_take}
use Rattle.sheet_cube.proofs.Verdicts.{side_wrong, curve_wrong}
use Rattle.sheet_cube.proofs.Judged.{rest_lines, curve_refused, curve_accepted, passes, side_refused, side_accepted, strokes_of}

drop_take : (n m : ℕ) (l : List ℕ) → n ≤ length l → drop n (take (n + m) l) ≡ take m (drop n l)
drop_take n m l h = ap (drop n) (take-add n m l) ∙ drop_at (take n l) (take m (drop n l)) n (length-take-le n l h)

-- A number is at most another or above it.
by_size : (m n : ℕ) {P : Type 0} → (m ≤ n → P) → (n < m → P) → P
by_size m n p q = ⊎_elim (λ t. q ((less n m).0 t)) (λ f. p (not_less n m f)) (decided (ltb n m))

-- A line that is too long is wrong, and so is what is left of it if that is too long.
long_wrong : (fields : ℕ) (l : List ℕ) → 5 * fields + 1 < length l → is_wrong fields l ≡ true
unfolding is_wrong
long_wrong fields l h = rw (ne_eqb (length l) (5 * fields + 1) (λ e. omega (arith, h, e)))

-- The first curve line of what is left is refused, or it is accepted and the later ones decide.
module _ (S k : ℕ) (all : Judged) (rest : List ℕ) (h : 0 < length rest) where
  next_refused : {n : ℕ} → first_that (curve_order S k (first_line rest)) ≡ refused n → judge_curves S k (lines rest) all ≡ bad n k
  next_refused e = rw (rest_lines rest h) (curve_refused S all k (first_line rest) (lines (drop (length (first_line rest)) rest)) e)

  next_accepted : first_that (curve_order S k (first_line rest)) ≡ accepted →
      judge_curves S k (lines rest) all ≡ judge_curves S (suc k) (lines (drop 71 rest)) all
  next_accepted e =
      rw (rest_lines rest h, (passes (first_line rest) e).whole)
      (curve_accepted S all k (first_line rest) (lines (drop 71 rest)) e)

-- What two inputs are answered for, where one is what the other begins with.
module _ (m : ℕ) (rest : List ℕ) (h : m ≤ length rest) where
  abbrev cut : List ℕ
  cut = take m rest

  -- A first line that is short enough is whole,
  same_line : length (first_line rest) ≤ m → first_line cut ≡ first_line rest
  same_line q = first_take m rest ∙ take_all m (first_line rest) q

  -- and one that is too long stays so.
  long_line : {w : ℕ} → w < m → w < length (first_line rest) → w < length (first_line cut)
  long_line {w} p q =
      by_size (length (first_line rest)) m
      (λ s. rw (same_line s) q)
      (λ l. rw (first_take m rest, length-take-le m (first_line rest) (omega (arith, l))) p)

-- With room for j more lines, from line k on.
curves_early : (S j k : ℕ) → j + k ≡ 202 → (rest : List ℕ) → 71 * j + 1 ≤ length rest → (all early : Judged) →
    judge_curves S k (lines (take (71 * j + 1) rest)) early ≡ judge_curves S k (lines rest) all
curves_early S zero k e rest h all early =
    let many : 201 < k = omega (arith, e) in
    next_refused S k early (take 1 rest) (omega (arith, h, length-take-le 1 rest h)) (too_many_lines S k (first_line (take 1 rest)) many) ∙
    sym (next_refused S k all rest (omega (arith, h)) (too_many_lines S k (first_line rest) many))
curves_early S (suc j) k e rest h all early =
    let m : ℕ = 71 * suc j + 1 in
    let there : 0 < length rest = omega (arith, h) in
    let cut_there : 0 < length (take m rest) = omega (arith, h, length-take-le m rest h) in
    by_size (length (first_line rest)) 71
    (λ q.
    let same = same_line m rest h (omega (arith, q)) in
    by_verdict (first_that (curve_order S k (first_line rest)))
    (judge_curves S k (lines (take m rest)) early ≡ judge_curves S k (lines rest) all)
    (λ a.
    next_accepted S k early (take m rest) cut_there (rw same a) ∙
    ap (λ r. judge_curves S (suc k) (lines r) early) (rest_cut j rest h) ∙
    curves_early S j (suc k) (omega (arith, e)) (drop 71 rest) (omega (arith, h, length-drop 71 rest)) all early ∙
    sym (next_accepted S k all rest there a))
    (λ n r. next_refused S k early (take m rest) cut_there (rw same r) ∙ sym (next_refused S k all rest there r)))
    (λ q.
    let few : k ≤ 201 = omega (arith, e) in
    next_refused S k early (take m rest) cut_there
    (curve_wrong S k (first_line (take m rest)) few (long_wrong 14 (first_line (take m rest)) (long_line m rest h (omega arith) q))) ∙
    sym (next_refused S k all rest there (curve_wrong S k (first_line rest) few (long_wrong 14 (first_line rest) q))))
  where
    rest_cut : (j : ℕ) (rest : List ℕ) → 71 * suc j + 1 ≤ length rest →
        drop 71 (take (71 * suc j + 1) rest) ≡ take (71 * j + 1) (drop 71 rest)
    rest_cut j rest h =
        let split : 71 * suc j + 1 ≡ 71 + (71 * j + 1) = omega arith in
        ap (λ n. drop 71 (take n rest)) split ∙ drop_take 71 (71 * j + 1) rest (omega (arith, h))

-- The first 14207 bytes decide how a sheet is judged,
pub judge_early : (input : List ℕ) → judge (take 14207 input) ≡ judge input
judge_early input =
    by_size (length input) 14207
    (λ whole. ap judge (take_all 14207 input whole))
    (λ longer.
    let h : 14207 ≤ length input = omega (arith, longer) in
    let first = take 14207 input in
    by_size (length (first_line input)) 6
    (λ q.
    let same = same_line 14207 input h (omega (arith, q)) in
    by_verdict (first_that (side_order (first_line input))) (judge first ≡ judge input)
    (λ a.
    let R : ℕ = number (first_line input) 0 in
    side_accepted first (rw same a) ∙
    rw same
    (ap (λ r. judge_curves R 2 (lines r) (good R (strokes_of first))) (drop_take 6 14201 input (omega (arith, h))) ∙
    curves_early R 200 2 refl (drop 6 input) (omega (arith, h, length-drop 6 input)) (good R (strokes_of input))
    (good R (strokes_of first))) ∙
    sym (side_accepted input a))
    (λ n r. side_refused first (rw same r) ∙ sym (side_refused input r)))
    (λ q.
    side_refused first (side_wrong (first_line first) (long_wrong 1 (first_line first) (long_line 14207 input h (lit< tt) q))) ∙
    sym (side_refused input (side_wrong (first_line input) (long_wrong 1 (first_line input) q)))))

-- and so the output.
pub output_early : (input : List ℕ) → output (take 14207 input) ≡ output input
unfolding output
output_early input = ap printed (judge_early input)
