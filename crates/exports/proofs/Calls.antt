-- What the calls' contracts say of signed answers.
use mathlib.Core.Path.{◌≡◌, refl, sym, ◌∙◌, ap}
use mathlib.Core.List.{List, [], ◌∷◌}
use Prim.Native.Nat.{ℕ, zero, suc, ◌≤◌, ◌<◌}
use native.Mathlib.Omega.{arith}
use lib.IntN.{ℤ, pos}
use lib.ListN.{length}
use borrow.Author.Tests.{ne_eqb, eq-eqb}
use Rattle.std.specs.Prelude.{Result, Ok, Err}
use Rattle.drawing.specs.declared.Choice.{Choice}
use Rattle.drawing.specs.ChoiceNumber.{choice_at}
use Rattle.decide.specs.declared.Refusal.{Refusal}
use Rattle.decide.specs.Verdict.{outcome_of}
use Rattle.decide.specs.Refusal as refusal
use Rattle.decide.specs.Refusal.{Rule, ◌when◌, Verdict, accepted, refused, Outcome, gives, outcome, first_that, or_else}
use Rattle.decide.proofs.Truth.{true_of, false_of, less}
use Rattle.decide.proofs.FirstThat.{telling_outcome, first_applies, first_passes}
use Rattle.drawing.specs.Object.{Object}
use Rattle.drawing.specs.Refusals.{check_verdict}
use Rattle.drawing.specs.Drawing.{Drawing, drawn_by, Listing}
use Rattle.drawing.specs.NewCells.{new_cells}
use Rattle.scan.specs.declared.answer.Drawn.{Drawn}
use Rattle.scan.specs.Answer.{Draws, Lists}
use Rattle.drawing.proofs.Drawn.{drawn_refused}
use Rattle.scan.proofs.Alike.{Alike, same_grid}
use Rattle.flip.specs.Flip.{exchanged}
use Rattle.exports.specs.Signed.{minus, signed_of, signed, other_length, own_first}
use Rattle.exports.specs.Records.{choice_of, no_choice, record_order, draw_order, Calls, ChecksBytes, answer_of, new_cells_after, DrawsBytes}
use Rattle.exports.specs.Records.{ListsBytes, flip_order, FlipsBytes, FlipsPatchBytes}

-- A record has its length or not, and for a drawing the choice is one or not.
module _ (size : ℕ) (bytes : List ℕ) where
  wrong_length : (rules : List Rule) → (length bytes ≡ size → ⊥) →
      first_that (51 when other_length size bytes ∷ rules) ≡ refused 51
  wrong_length rules n = first_applies 51 (other_length size bytes) rules (rw (ne_eqb (length bytes) size n))

  module _ (e : length bytes ≡ size) where
    past_length : (rules : List Rule) → first_that (51 when other_length size bytes ∷ rules) ≡ first_that rules
    past_length rules = first_passes 51 (other_length size bytes) rules (rw (eq-eqb (length bytes) size e))

    right_length : first_that (record_order size bytes) ≡ accepted
    unfolding first_that
    right_length = past_length []

    wrong_choice : {k : ℕ} → 1 < k → first_that (draw_order size bytes k) ≡ refused 55
    wrong_choice {k} h =
        past_length (55 when no_choice k ∷ []) ∙ first_applies 55 (no_choice k) [] (true_of (no_choice k) ((less 1 k).1 h))

    right_choice : {k : ℕ} → k ≤ 1 → first_that (draw_order size bytes k) ≡ accepted
    unfolding first_that
    right_choice {k} h =
        past_length (55 when no_choice k ∷ []) ∙
        first_passes 55 (no_choice k) [] (false_of (no_choice k) (λ t. omega (arith, h, (less 1 k).0 t)))

-- A choice's number is 0 or 1, and what `Choice::try_from` answers of it its choice; of any other number it answers 55.
pub no_choice_at : (number : ℕ) {e : Refusal} → Err e ≡ choice_at number → 1 < number
no_choice_at zero h = let z : ◌≡◌ {A = ℕ} 0 1 = cc in absurd (omega arith)
no_choice_at (suc zero) h = let z : ◌≡◌ {A = ℕ} 0 1 = cc in absurd (omega arith)
no_choice_at (suc (suc k)) h = omega arith

pub choice_at_most : (number : ℕ) {c : Choice} → Ok c ≡ choice_at number → number ≤ 1
choice_at_most zero h = omega arith
choice_at_most (suc zero) h = omega arith
choice_at_most (suc (suc k)) h = let z : ◌≡◌ {A = ℕ} 0 1 = cc in absurd (omega arith)

pub same_choice : (number : ℕ) {c : Choice} → Ok c ≡ choice_at number → c ≡ choice_of number
same_choice zero h = cc
same_choice (suc zero) h = cc
same_choice (suc (suc k)) h = let z : ◌≡◌ {A = ℕ} 0 1 = cc in absurd (omega arith)

-- Where a number of the interface's own applies the call is refused with it, and else it is left to itself.
module _ (own : List Rule) (v : Verdict) (n : ℕ) {r : ℤ} where
  own_answer : {k : ℕ} → first_that own ≡ refused k → r ≡ minus k → r ≡ signed (own_first own v) n
  own_answer w e = e ∙ ap (λ u. signed (or_else u v) n) (sym w)

  call_answer : first_that own ≡ accepted → r ≡ signed v n → r ≡ signed (own_first own v) n
  call_answer p e = e ∙ ap (λ u. signed (or_else u v) n) (sym p)

module _ (own : List Rule) (v : Verdict) (n : ℕ) (left before : List ℕ) where
  own_call : {k : ℕ} {r : ℤ} → first_that own ≡ refused k → r ≡ minus k → Calls own v n left before before r
  own_call w e = record {
    answer = own_answer own v n w e;
    leaves = sym (ap (λ u. refusal.leaves u left before) w);
  }

  passed_call : {a : Outcome ℕ} {after : List ℕ} {r : ℤ} → first_that own ≡ accepted → a ≡ outcome v n → after ≡ left →
      r ≡ signed_of a → Calls own v n left before after r
  passed_call h s l e = record {
    answer = call_answer own v n h (e ∙ ap signed_of s);
    leaves = l ∙ sym (ap (λ u. refusal.leaves u left before) h);
  }

-- A call that answers a number and is lent nothing.
module _ (size : ℕ) (bytes : List ℕ) (v : Verdict) (n : ℕ) {r : ℤ} where
  pub wrong_answer : (length bytes ≡ size → ⊥) → r ≡ minus 51 → r ≡ signed (own_first (record_order size bytes) v) n
  wrong_answer w e = own_answer (record_order size bytes) v n (wrong_length size bytes [] w) e

  pub right_answer : {a : Outcome ℕ} → length bytes ≡ size → a ≡ outcome v n → r ≡ signed_of a →
      r ≡ signed (own_first (record_order size bytes) v) n
  right_answer h s e = call_answer (record_order size bytes) v n (right_length size bytes h) (e ∙ ap signed_of s)

-- A check, by the object that the record's bytes stand for, and what it tells of an accepted one.
module _ (size S : ℕ) (o : Object) (told : Object → ℕ) {r : ℤ} where
  pub wrong_check : (length o.points ≡ size → ⊥) → r ≡ minus 51 → ChecksBytes size S o (told o) r
  wrong_check w e = wrong_answer size o.points (check_verdict S o) (told o) w e

  pub right_check : (p : Object) {a : Outcome ℕ} → length o.points ≡ size → p ≡ o → a ≡ outcome (check_verdict S p) (told p) →
      r ≡ signed_of a → ChecksBytes size S o (told o) r
  right_check p h same found e =
      right_answer size o.points (check_verdict S o) (told o) h
      (found ∙ ap (λ q. outcome (check_verdict S q) (told q)) same) e

-- A listing.
module _ (size : ℕ) (points : List ℕ) (l : Listing) (list : List ℕ) where
  pub wrong_listing : {r : ℤ} → (length points ≡ size → ⊥) → r ≡ minus 51 → ListsBytes size points l list list r
  wrong_listing w e = own_call (record_order size points) _ _ _ _ (wrong_length size points [] w) e

  -- By the listing that the record's bytes stand for.
  pub right_listing : (p : Listing) {after : List ℕ} {a : Result ℕ Refusal} {r : ℤ} →
      length points ≡ size → p ≡ l → Lists p list after a → r ≡ signed_of (outcome_of a) → ListsBytes size points l list after r
  right_listing p h same t e =
      let t' = rw same at t in
      passed_call (record_order size points) _ _ _ _ (right_length size points h) t'.answer t'.leaves e

-- A drawing.
module _ (size : ℕ) (points : List ℕ) (choice : ℕ) (d : Drawing) (grid : List ℕ) where
  abbrev own : List Rule
  own = draw_order size points choice

  refused_drawing : {k new : ℕ} {r : ℤ} → first_that own ≡ refused k → r ≡ minus k →
      DrawsBytes size points choice d grid grid new new r
  refused_drawing {new = new} w e = record {
    call = own_call own _ _ _ _ w e;
    new_cells =
        sym (ap (λ u. refusal.leaves (or_else u (d.verdict (length grid))) (new_cells grid grid) new) w);
  }

  pub wrong_record : {new : ℕ} {r : ℤ} → (length points ≡ size → ⊥) → r ≡ minus 51 →
      DrawsBytes size points choice d grid grid new new r
  wrong_record w e = refused_drawing (wrong_length size points (55 when no_choice choice ∷ []) w) e

  pub wrong_number : {new : ℕ} {r : ℤ} → length points ≡ size → 1 < choice → r ≡ minus 55 →
      DrawsBytes size points choice d grid grid new new r
  wrong_number h w e = refused_drawing (wrong_choice size points h w) e

  -- By the drawing that the record's bytes and the choice's number stand for.
  pub right_drawing : (p : Drawing) {after : List ℕ} {a : Result Drawn Refusal} {new newNow : ℕ} {r : ℤ} →
      length points ≡ size → choice ≤ 1 → p ≡ d → Draws p grid after a →
      r ≡ signed_of (answer_of (outcome_of a)) → newNow ≡ new_cells_after (outcome_of a) new →
      DrawsBytes size points choice d grid after new newNow r
  right_drawing p {after} {new = new} h k same t e q =
      let v : Verdict = d.verdict (length grid) in
      let counts : Drawn = record { answer = d.answer; new_cells = new_cells grid after } in
      let t' = rw same at t in
      let passed = right_choice size points h k in
      record {
        call = passed_call own v _ _ _ passed (ap answer_of t'.answer ∙ telling_outcome (λ k. k.answer) v counts) t'.leaves e;
        new_cells =
            q ∙ ap (λ a. new_cells_after a new) t'.answer ∙ new_outcome v counts new ∙
            ap (λ u. refusal.leaves (or_else u v) (new_cells grid after) new) (sym passed);
      }
    where
      new_outcome : (v : Verdict) (d : Drawn) (new : ℕ) → new_cells_after (outcome v d) new ≡ refusal.leaves v d.new_cells new
      new_outcome accepted d new = refl
      new_outcome (refused k) d new = refl

  -- Refused by the call's own order.
  pub own_number : {k new : ℕ} {r : ℤ} → length points ≡ size → choice ≤ 1 → d.verdict (length grid) ≡ refused k → r ≡ minus k →
      DrawsBytes size points choice d grid grid new new r
  own_number {k} {new} h c v e =
      let passed = right_choice size points h c in
      record {
        call =
            passed_call own (d.verdict (length grid)) d.answer (drawn_by d grid) grid passed
            (sym (ap (λ u. outcome u d.answer) v)) (sym (drawn_refused d grid v)) e;
        new_cells =
            sym (ap (λ u. refusal.leaves (or_else u (d.verdict (length grid))) (new_cells grid grid) new) passed ∙
            ap (λ u. refusal.leaves u (new_cells grid grid) new) v);
      }

  -- As another drawing that does the same.
  pub as_another : (p : Drawing) → Alike p d → {after : List ℕ} {new newNow : ℕ} {r : ℤ} →
      DrawsBytes size points choice p grid after new newNow r → DrawsBytes size points choice d grid after new newNow r
  as_another p w t = record {
    call = record {
      answer = rw (← w.verdict (length grid), ← w.answer) t.call.answer;
      leaves = rw (← same_grid p d w grid) t.call.leaves;
    };
    new_cells = rw (← w.verdict (length grid)) t.new_cells;
  }

-- A flip: the record has its length or not, and what it is written to has the same or not.
module _ (size : ℕ) (points flipped : List ℕ) where
  pub flip_51 : (length points ≡ size → ⊥) → first_that (flip_order size points flipped) ≡ refused 51
  flip_51 w = wrong_length size points (52 when other_length size flipped ∷ []) w

  pub flip_52 : length points ≡ size → (length flipped ≡ size → ⊥) → first_that (flip_order size points flipped) ≡ refused 52
  flip_52 h w =
      past_length size points h (52 when other_length size flipped ∷ []) ∙
      first_applies 52 (other_length size flipped) [] (rw (ne_eqb (length flipped) size w))

  pub flip_passes : length points ≡ size → length flipped ≡ size → first_that (flip_order size points flipped) ≡ accepted
  unfolding first_that
  flip_passes h g =
      past_length size points h (52 when other_length size flipped ∷ []) ∙
      first_passes 52 (other_length size flipped) [] (rw (eq-eqb (length flipped) size g))

  module _ (flip : List ℕ → List ℕ) where
    pub flip_refused : {k : ℕ} {r : ℤ} → first_that (flip_order size points flipped) ≡ refused k → r ≡ minus k →
        FlipsBytes size flip points flipped flipped r
    flip_refused w e = own_call (flip_order size points flipped) accepted 0 (flip points) flipped w e

    pub flip_done : {after : List ℕ} {r : ℤ} → first_that (flip_order size points flipped) ≡ accepted → after ≡ flip points →
        r ≡ pos 0 → FlipsBytes size flip points flipped after r
    flip_done w l e = passed_call (flip_order size points flipped) accepted 0 (flip points) flipped {a = gives 0} w refl l e

-- Of a patch.
module _ (points : List ℕ) (n m : ℕ) (flipped : List ℕ) where
  pub patch_flip_refused : {k : ℕ} {r : ℤ} → first_that (flip_order 48 points flipped) ≡ refused k → r ≡ minus k →
      FlipsPatchBytes points n m n m flipped flipped r
  patch_flip_refused w e = record {
    call = flip_refused 48 points flipped exchanged w e;
    along_t = sym (ap (λ u. refusal.leaves u m n) w);
    along_u = sym (ap (λ u. refusal.leaves u n m) w);
  }

  pub patch_flip_done : {nNow mNow : ℕ} {after : List ℕ} {r : ℤ} → first_that (flip_order 48 points flipped) ≡ accepted →
      after ≡ exchanged points → nNow ≡ m → mNow ≡ n → r ≡ pos 0 → FlipsPatchBytes points n m nNow mNow flipped after r
  patch_flip_done w l t u e = record {
    call = flip_done 48 points flipped exchanged w l e;
    along_t = t ∙ sym (ap (λ u. refusal.leaves u m n) w);
    along_u = u ∙ sym (ap (λ u. refusal.leaves u n m) w);
  }
