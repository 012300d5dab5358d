-- What the main path's function for C answers is small, so that the strip's hands it on as it is.
use mathlib.Core.Path.{◌≡◌, refl, sym, ◌∙◌, subst}
use mathlib.Core.List.{List, [], ◌∷◌, ◌++◌}
use Prim.Native.Nat.{ℕ, ◌<◌, ◌^◌}
use native.Mathlib.Nat.{mul-le-mul}
use native.Mathlib.Omega.{arith}
use lib.Dec.{lit<}
use lib.IntN.{ℤ}
use Rattle.integers.specs.Magnitude.{Within}
use Rattle.decide.specs.Some.{some_of}
use Rattle.decide.specs.Refusal.{Rule, Verdict, accepted, refused, first_that, numbers}
use Rattle.decide.proofs.FirstThat.{refused_most, first_append, accepted_append}
use Rattle.cubic.proofs.Fits.{read}
use Rattle.drawing.specs.declared.Choice.{Choice}
use Rattle.drawing.specs.Object.{Object, curve, patch}
use Rattle.drawing.specs.Refusals.{order, drawing_order, draw_verdict, sample_count, Drawable}
use Rattle.drawing.proofs.Accepted.{draw_accepted}
use Rattle.exports.specs.Signed.{signed, own_first}
use Rattle.exports.specs.Records.{draw_order}
use Rattle.exports.proofs.Small.{count_small, number_small, small_read}

-- A verdict's number and an accepted call's count are small.
signed_small : (v : Verdict) (n : ℕ) → ((k : ℕ) → v ≡ refused k → k < 2 ^ 32) → (v ≡ accepted → n < 2 ^ 32) →
    Within (2 ^ 32) (signed v n)
signed_small accepted n f g = count_small (g refl)
signed_small (refused k) n f g = number_small (f k refl)

module _ (size S len choice : ℕ) (o : Object) (count : Drawable S o → sample_count o.counts < 2 ^ 32) where
  abbrev own : List Rule
  own = draw_order size o.points choice

  -- One order after the other.
  in_turn_lem : own_first own (draw_verdict S len o) ≡ first_that (own ++ drawing_order S len o)
  unfolding draw_verdict
  in_turn_lem = sym (first_append own (drawing_order S len o))

  most_55 : (k : ℕ) → own_first own (draw_verdict S len o) ≡ refused k → k < 2 ^ 32
  unfolding some_of numbers order
  most_55 k e = omega (arith, refused_most 55 (own ++ drawing_order S len o) refl (sym in_turn_lem ∙ e))

  counted : own_first own (draw_verdict S len o) ≡ accepted → sample_count o.counts < 2 ^ 32
  unfolding draw_verdict
  counted e =
      count ((draw_accepted S o len).0 (accepted_append own (drawing_order S len o) (sym in_turn_lem ∙ e)).1).0

  pub handed_on : {r : ℤ} → r ≡ signed (own_first own (draw_verdict S len o)) (sample_count o.counts) → read r ≡ r
  handed_on {r} e = (small_read {r = r} refl (subst (Within (2 ^ 32)) (sym e) (signed_small (own_first own (draw_verdict S len o)) _ most_55 counted))).0

module _ {S : ℕ} (points : List ℕ) (mark : ℕ) (choice : Choice) where
  -- 513 samples of a curve, and 257 × 257 of a patch.
  pub curve_count : (n : ℕ) → Drawable S (curve n points mark choice) → sample_count (n ∷ []) < 2 ^ 32
  unfolding sample_count
  curve_count n d = omega (arith, d.count_most 0 (lit< tt))

  pub patch_count : (n m : ℕ) → Drawable S (patch n m points mark choice) → sample_count (n ∷ m ∷ []) < 2 ^ 32
  unfolding sample_count
  patch_count n m d = omega (arith, mul-le-mul (d.count_most 0 (lit< tt)) (d.count_most 1 (lit< tt)), d.count_most 0 (lit< tt), d.count_most 1 (lit< tt))
