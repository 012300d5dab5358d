-- The verdict of a line from what is read of it.
use mathlib.Core.Path.{◌≡◌, refl, sym, ◌∙◌, ap}
use mathlib.Core.Logic.{⊎_elim}
use mathlib.Core.Bool.{Bool, true, false, not}
use mathlib.Core.List.{List, [], ◌∷◌}
use Prim.Native.Nat.{ℕ, ◌+◌, ◌*◌, ◌≤◌, ◌<◌}
use native.Mathlib.Omega.{arith}
use lib.Dec.{ltb}
use lib.ListN.{length, take}
use Rattle.decide.specs.Refusal.{◌when◌, accepted, refused, first_that}
use Rattle.decide.proofs.FirstThat.{first_applies, first_passes, first_empty}
use Rattle.decide.proofs.Truth.{decided, false_of, true_of, less}
use Rattle.cube.specs.Cube.{side_out}
use Rattle.cube.proofs.Words.{side_in_lem}
use Rattle.sheet.specs.Field.{is_bad}
use Rattle.sheet.specs.Line.{field, number, is_wrong}
use Rattle.sheet.specs.Sheet.{side_order, curve_order}
use Rattle.sheet_lines.specs.Read.{first_line}
use Rattle.sheet_lines.proofs.Lines.{first_prefix, line_length}
use Rattle.sheet_lines.proofs.Fits.{fields_good, field_bad}

twice : (b : Bool) → not (not b) ≡ b
twice true = refl
twice false = refl

-- What `is_line` answers of the first line of what is left.
pub record WholeLine (fields : ℕ) (rest : List ℕ) : Type 0 where
  pub right : is_wrong fields (first_line rest) ≡ false
  pub taken : take (5 * fields + 1) rest ≡ first_line rest
  pub whole : length (take (5 * fields + 1) rest) ≡ 5 * fields + 1

module _ (fields : ℕ) (rest : List ℕ) {r : Bool} (e : r ≡ not (is_wrong fields (first_line rest))) where
  pub is_wrong_lem : r ≡ false → is_wrong fields (first_line rest) ≡ true
  is_wrong_lem f = sym (twice (is_wrong fields (first_line rest))) ∙ ap not (sym e ∙ f)

  pub is_whole : r ≡ true → WholeLine fields rest
  is_whole t =
      let right = sym (twice (is_wrong fields (first_line rest))) ∙ ap not (sym e ∙ t) in
      let l = line_length fields (first_line rest) right in
      let same : take (5 * fields + 1) rest ≡ first_line rest = ap (λ n. take n rest) (sym l) ∙ sym (first_prefix rest) in
      record { right = right; taken = same; whole = ap length same ∙ l }

-- Line 1.
module _ (line : List ℕ) where
  pub side_wrong : is_wrong 1 line ≡ true → first_that (side_order line) ≡ refused 41
  unfolding side_order
  side_wrong w = first_applies _ _ _ w

  module _ (w : is_wrong 1 line ≡ false) where
    pub side_bad : is_bad (field line 0) ≡ true → first_that (side_order line) ≡ refused 42
    unfolding side_order
    side_bad e = first_passes _ _ _ w ∙ first_applies _ _ _ (field_bad line 1 0 (omega arith) e)

    module _ (good : is_bad (field line 0) ≡ false) where
      -- 41 and 42 do not apply.
      side_from_11 : first_that (side_order line) ≡
          first_that (11 when side_out (number line 0) ∷ 43 when ltb 40 (number line 0) ∷ [])
      unfolding side_order
      side_from_11 =
          first_passes _ _ _ w ∙
          first_passes _ _ _ ((fields_good line 1).1 (λ k l. let z : k ≡ 0 = omega arith in rw z good))

      pub side_out_lem : ¬ ((2 ≤ number line 0) × (number line 0 ≤ 64)) → first_that (side_order line) ≡ refused 11
      side_out_lem n =
          side_from_11 ∙
          first_applies _ _ _ (true_of _ (⊎_elim (λ t. t) (λ f. absurd (n ((side_in_lem (number line 0)).0 f)))
          (decided (side_out (number line 0)))))

      side_passes : 2 ≤ number line 0 → number line 0 ≤ 64 →
          first_that (side_order line) ≡ first_that (43 when ltb 40 (number line 0) ∷ [])
      side_passes a b = side_from_11 ∙ first_passes _ _ _ (false_of _ ((side_in_lem (number line 0)).1 (a, b)))

      pub side_large : number line 0 ≤ 64 → 40 < number line 0 → first_that (side_order line) ≡ refused 43
      side_large b c = side_passes (omega arith) b ∙ first_applies _ _ _ (true_of _ ((less 40 (number line 0)).1 c))

      pub side_good : 2 ≤ number line 0 → number line 0 ≤ 40 → first_that (side_order line) ≡ accepted
      side_good a b =
          side_passes a (omega arith) ∙
          first_passes _ _ _ (false_of _ (λ t. omega (arith, b, (less 40 (number line 0)).0 t))) ∙ first_empty

-- A side that a sheet has is in range.
pub side_there : {S : ℕ} → 2 ≤ S → S ≤ 40 → side_out S ≡ false
side_there {S} a b = false_of (side_out S) ((side_in_lem S).1 (a, omega arith))

-- A curve line, line number k.
module _ (S k : ℕ) (line : List ℕ) (few : k ≤ 201) where
  not_many : ltb 201 k ≡ false
  not_many = false_of _ (λ t. omega (arith, few, (less 201 k).0 t))

  pub curve_wrong : is_wrong 14 line ≡ true → first_that (curve_order S k line) ≡ refused 41
  unfolding curve_order
  curve_wrong w = first_passes _ _ _ not_many ∙ first_applies _ _ _ w
