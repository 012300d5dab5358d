-- The listings of a curve and of its flip agree, with lists of the same length.
use mathlib.Core.Path.{◌≡◌, sym, ◌∙◌, ap, subst}
use mathlib.Core.List.{List, [], ◌∷◌}
use Prim.Native.Nat.{ℕ, ◌+◌, ◌-◌, ◌*◌}
use native.Mathlib.Omega.{arith}
use lib.ListN.{length, get_or}
use Rattle.std.specs.Prelude.{Result, Ok, Err}
use Rattle.decide.specs.declared.Refusal.{Refusal}
use Rattle.decide.specs.Refusal.{Verdict, accepted, refused, outcome}
use Rattle.decide.specs.Verdict.{number_of, outcome_of}
use Rattle.decide.proofs.Unique.{number_unique}
use Rattle.decide.proofs.FirstThat.{not_both, answer_given, answer_refused}
use Rattle.cube.specs.Cube.{Axis, x_axis, y_axis, z_axis}
use Rattle.drawing.specs.declared.Choice.{Choice}
use Rattle.drawing.specs.Object.{Object, curve, offset, cell_of}
use Rattle.drawing.specs.Refusals.{list_verdict, sample_count}
use Rattle.drawing.specs.Drawing.{listing_of, listed}
use Rattle.drawing.proofs.Accepted.{list_accepted}
use Rattle.drawing.proofs.Listed.{listed_refused, length_listed, listed_rest, listed_curve}
use Rattle.scan.specs.Answer.{Lists}
use Rattle.flip.specs.Flip.{reversed}
use Rattle.flip.specs.Listings.{SameCell, Reversed, Agree, KeepsRest}
use Rattle.flip.proofs.Samples.{same_list_verdict}
use Rattle.flip.proofs.Curves.{cell_reversed, curve_reordered}

-- What two answers to one verdict have in common.
by_answers : (v : Verdict) (n : ℕ) (list back : List ℕ) (r s : Result ℕ Refusal) → outcome_of r ≡ outcome v n →
    outcome_of s ≡ outcome v n → (v ≡ accepted → Reversed n list back) → Agree list back r s
by_answers v n list back (Ok a) (Ok b) e f cells =
    let g = answer_given v n e in
    let h = answer_given v n f in
    (g.1 ∙ sym h.1, subst (λ k. Reversed k list back) (sym g.1) (cells g.0))
by_answers v n list back (Ok a) (Err d) e f cells = not_both (sym (answer_refused v n f) ∙ (answer_given v n e).0)
by_answers v n list back (Err c) (Ok b) e f cells = not_both (sym (answer_refused v n e) ∙ (answer_given v n f).0)
by_answers v n list back (Err c) (Err d) e f cells = number_unique c d (same (sym (answer_refused v n e) ∙ answer_refused v n f))
  where
    same : refused (number_of c) ≡ refused (number_of d) → number_of c ≡ number_of d
    same q = cc

-- Any listing keeps the rest of its list.
pub keeps_rest : (S : ℕ) (o : Object) {list listNow : List ℕ} {r : Result ℕ Refusal} → Lists (listing_of S o) list listNow r → KeepsRest list listNow r
keeps_rest S o {list} {listNow} {r} c = by_answer r c.answer
  where
    by_answer : (r : Result ℕ Refusal) → outcome_of r ≡ outcome (list_verdict S (length list) o) (sample_count o.counts) →
        KeepsRest list listNow r
    by_answer (Ok n) e =
        let so_many = (answer_given (list_verdict S (length list) o) (sample_count o.counts) e).1 in
        rw c.leaves (length_listed S o list, λ q b. listed_rest S o list q (rw so_many at b))
    by_answer (Err d) e =
        c.leaves ∙ listed_refused (listing_of S o) list (answer_refused (list_verdict S (length list) o) (sample_count o.counts) e)

module _ (S n : ℕ) (points : List ℕ) (mark : ℕ) (choice : Choice) (h : length points ≡ 12) where
  abbrev o : Object
  o = curve n points mark choice

  abbrev flip : Object
  flip = curve n (reversed points) mark choice

  same_verdict : (list back : List ℕ) → length list ≡ length back → list_verdict S (length back) flip ≡ list_verdict S (length list) o
  same_verdict list back e = sym (same_list_verdict (curve_reordered n mark choice points h) S (length list) ∙
      ap (λ k. list_verdict S k flip) e)

  module _ (list back : List ℕ) (e : length list ≡ length back) (a : list_verdict S (length list) o ≡ accepted) where
    -- Sample i of the one, sample k of the other.
    by_axis : (i k : ℕ) → i + k ≡ n → (x : Axis) →
        get_or (listed S o list) (3 * i + offset x) 0 ≡ get_or (listed S flip back) (3 * k + offset x) 0
    by_axis i k s x =
        let last : n - i ≡ k = omega arith in
        listed_curve S n points mark choice list a i (omega arith) x ∙
        ap (λ c. c x) (cell_reversed n mark choice points i (omega arith)) ∙
        ap (λ j. cell_of flip (j ∷ []) x) last ∙
        sym (listed_curve S n (reversed points) mark choice back (same_verdict list back e ∙ a) k (omega arith) x)

    same_cell : (i k : ℕ) → i + k ≡ n → SameCell (listed S o list) (3 * i) (listed S flip back) (3 * k)
    unfolding offset
    same_cell i k s =
        let at : 3 * i + 0 ≡ 3 * i = omega arith in
        let place : 3 * k + 0 ≡ 3 * k = omega arith in
        record { x = rw (at, place) at (by_axis i k s x_axis); y = by_axis i k s y_axis; z = by_axis i k s z_axis }

    in_reverse : Reversed (sample_count (n ∷ [])) (listed S o list) (listed S flip back)
    unfolding sample_count
    in_reverse = record {
      room = rw (length_listed S o list) ((list_accepted S o (length list)).0 a).1;
      space = rw (length_listed S flip back) ((list_accepted S flip (length back)).0 (same_verdict list back e ∙ a)).1;
      cells = λ i k s. same_cell i k (omega arith);
    }

  pub agree : {list back listNow backNow : List ℕ} {r s : Result ℕ Refusal} → length list ≡ length back →
      Lists (listing_of S o) list listNow r → Lists (listing_of S flip) back backNow s → Agree listNow backNow r s
  agree {list} {back} {r = r} {s} e c d =
      rw (c.leaves, d.leaves)
      (by_answers (list_verdict S (length list) o) (sample_count (n ∷ [])) _ _ r s c.answer
      (d.answer ∙ ap (λ v. outcome v (sample_count (n ∷ []))) (same_verdict list back e))
      (in_reverse list back e))
