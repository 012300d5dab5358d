-- The curve lines, 71 bytes at a time: what stands in the next 71 bytes decides as what is left does.
use Rattle.std.proofs.Common.{◌≡◌, refl, sym, ◌∙◌, ap, Bool, true, false, cond, List, [], ◌∷◌, ◌++◌, ℕ, zero, suc, ◌+◌, ◌*◌, ◌≤◌, ◌<◌, min, length, take, drop, take-take, length-drop, lit<, lit≤, not, arith}
use Rattle.std.proofs.lemmas.List.{get_or-take, take_min}
use borrow.Author.Tests.{ltb-false}
use lib.Dec.{eqb, ltb}
use lib.Seq.{take_all, take-nil, take_at, drop_at, drop-drop, length-take-le}
use mathlib.Core.Logic.{⊎_elim}
use Rattle.decide.specs.Refusal.{accepted, refused, first_that}
use Rattle.decide.proofs.Truth.{decided, less, not_less, true_of, false_of}
use Rattle.sheet.specs.Line.{is_wrong}
use Rattle.sheet.specs.Sheet.{curve_order, judge}
use Rattle.sheet.proofs.Sheet.{too_many_lines}
use Rattle.sheet_lines.specs.Read.{first_line}
use Rattle.sheet_lines.proofs.Lines.{feeds, broken_line, byte_decides, line_length}
use Rattle.sheet_cube.specs.Lines.{sized, fault, found}
use Rattle.sheet_cube.proofs.Verdicts.{curve_wrong}
use Rattle.sheet_cube.proofs.Judged.{Left, passes, left_none, left_refused, left_more, line_within}

-- The first line of the first bytes.
pub first_take : (m : ℕ) (rest : List ℕ) → first_line (take m rest) ≡ take m (first_line rest)
unfolding first_line
first_take zero rest = refl
first_take (suc m) [] = refl
first_take (suc m) (b ∷ bs) = ap (b ∷◌) (by_test (eqb b 10) (first_take m bs))
  where
    by_test : (t : Bool) → first_line (take m bs) ≡ take m (first_line bs) →
        cond t [] (first_line (take m bs)) ≡ take m (cond t [] (first_line bs))
    by_test true e = sym (take-nil m)
    by_test false e = e

module _ (rest : List ℕ) where
  -- With 71 bytes there is as much of a line as can be right.
  wrong_alike : is_wrong 14 (first_line (take 71 rest)) ≡ is_wrong 14 (first_line rest)
  wrong_alike =
      ⊎_elim
      (λ t.
      let long = (less 70 (length rest)).0 t in
      let cut : 70 < length (take 71 rest) = omega (arith, length-take-le 71 rest (omega arith)) in
      let same : take 70 (take 71 rest) ≡ take 70 rest = take-take 70 71 rest (lit≤ tt) in
      ⊎_elim
      (λ f. broken_line 14 (take 71 rest) (rw same (true_of _ f)) ∙ sym (broken_line 14 rest (true_of _ f)))
      (λ f. byte_decides 14 (take 71 rest) cut (rw same (false_of _ f)) ∙
      ap (λ b. not (eqb b 10)) (get_or-take 71 rest 70 0 (lit< tt)) ∙ sym (byte_decides 14 rest long (false_of _ f)))
      (decided (feeds (take 70 rest))))
      (λ f. ap (λ r. is_wrong 14 (first_line r)) (take_all 71 rest (omega (arith, not_less 70 (length rest) f))))
      (decided (ltb 70 (length rest)))

  same_line : is_wrong 14 (first_line rest) ≡ false → first_line (take 71 rest) ≡ first_line rest
  same_line e = first_take 71 rest ∙ take_all 71 (first_line rest) (omega (arith, line_length 14 (first_line rest) e))

  -- So they decide alike.
  chunk_decides : (S k : ℕ) → first_that (curve_order S k (first_line (take 71 rest))) ≡ first_that (curve_order S k (first_line rest))
  chunk_decides S k =
      ⊎_elim
      (λ t. let many = (less 201 k).0 t in too_many_lines S k _ many ∙ sym (too_many_lines S k _ many))
      (λ f.
      let few = not_less 201 k f in
      ⊎_elim
      (λ t. let wrong = true_of _ t in curve_wrong S k _ few (wrong_alike ∙ wrong) ∙ sym (curve_wrong S k _ few wrong))
      (λ g. ap (λ l. first_that (curve_order S k l)) (same_line (false_of _ g)))
      (decided (is_wrong 14 (first_line rest))))
      (decided (ltb 201 k))

-- After n curve lines, with what is left of the input.
pub record AtLine (input : List ℕ) (side n : ℕ) (rest : List ℕ) : Type 0 where
  pub left : Left input side (6 + 71 * n) (n + 2)
  pub few : n ≤ 200
  pub is_rest : rest ≡ drop (6 + 71 * n) input

-- The next 71 bytes, or fewer at the end.
pub record Chunk (rest chunk more : List ℕ) : Type 0 where
  pub cut : rest ≡ chunk ++ more
  pub size : length chunk ≡ min 71 (length rest)
  pub there : 0 < length rest

module _ {input : List ℕ} {S n : ℕ} {rest chunk more : List ℕ} (at : AtLine input S n rest) (next : Chunk rest chunk more) where
  at_line : 6 + 71 * n < length input
  at_line = omega (arith, next.there, ap length at.is_rest, length-drop (6 + 71 * n) input)

  is_chunk : chunk ≡ take 71 rest
  is_chunk =
      let first : take (min 71 (length rest)) rest ≡ chunk = ap (take (min 71 (length rest))) next.cut ∙ take_at chunk more _ next.size in
      sym first ∙ take_min 71 rest

  decides : first_that (curve_order S (n + 2) (first_line chunk)) ≡ first_that (curve_order S (n + 2) (first_line (drop (6 + 71 * n) input)))
  decides = rw is_chunk (chunk_decides rest S (n + 2)) ∙ ap (λ r. first_that (curve_order S (n + 2) (first_line r))) at.is_rest

  -- They are refused,
  pub chunk_refused : {k : ℕ} → refused k ≡ first_that (curve_order S (n + 2) (first_line chunk)) → found (judge input) ≡ fault k (n + 2)
  chunk_refused e = ap found (left_refused input S at.left at_line (sym decides ∙ sym e))

  -- or accepted, and are a line.
  module _ (e : accepted ≡ first_that (curve_order S (n + 2) (first_line chunk))) where
    taken : first_that (curve_order S (n + 2) (first_line (drop (6 + 71 * n) input))) ≡ accepted
    taken = sym decides ∙ sym e

    pub not_last : n + 2 ≤ 201
    not_last = ltb-false 201 (n + 2) (passes _ taken).few

    pub chunk_passed : AtLine input S (n + 1) more
    chunk_passed =
        let within = line_within input S at.left at_line taken in
        let whole : length chunk ≡ 71 = omega (arith, next.size, within, ap length at.is_rest, length-drop (6 + 71 * n) input) in
        let after : 6 + 71 * n + 71 ≡ 6 + 71 * (n + 1) = omega arith in
        let line : suc (n + 2) ≡ n + 1 + 2 = omega arith in
        record {
          left = rw (← after, ← line) (left_more input S at.left at_line taken);
          few = omega (arith, not_last);
          is_rest =
              sym (drop_at chunk more 71 whole) ∙ ap (drop 71) (sym next.cut ∙ at.is_rest) ∙ drop-drop 71 (6 + 71 * n) input ∙
              ap (λ i. drop i input) after;
        }

-- At the end the sheet is good.
pub none_left : {input : List ℕ} {S n : ℕ} {rest : List ℕ} → AtLine input S n rest → length rest ≡ 0 →
    found (judge input) ≡ sized S n
none_left {input} {S} {n} at none =
    left_none input S at.left (omega (arith, none, ap length at.is_rest, length-drop (6 + 71 * n) input)) ∙ ap (sized S) (omega arith)
