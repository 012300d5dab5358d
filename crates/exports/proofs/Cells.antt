-- What swatch calls' contracts say of signed answers.
use mathlib.Core.Path.{◌≡◌, refl, sym, ◌∙◌, ap, subst}
use mathlib.Core.Bool.{Bool, true, false, not}
use mathlib.Core.List.{List, [], ◌∷◌, ◌++◌}
use Prim.Native.Nat.{ℕ, ◌-◌}
use native.Mathlib.Omega.{arith}
use borrow.Author.Tests.{eq-eqb, ne_eqb}
use lib.Dec.{T}
use lib.IntN.{ℤ, pos}
use lib.Ieee.{Float, nan, inf, fin, le, is_nan}
use lib.ListN.{length, set, take, drop, drop_of_length-le}
use Rattle.std.specs.Prelude.{cond, Result, Ok, Err}
use Rattle.decide.specs.declared.Refusal.{Refusal}
use Rattle.decide.specs.declared.Refusal.TheVariants as why
use Rattle.swatch.specs.declared.Swatch.{Swatch}
use Rattle.decide.specs.Refusal.{Verdict, Rule, ◌when◌, first_that, accepted, refused}
use Rattle.decide.proofs.FirstThat.{first_applies, first_passes}
use Rattle.exports.specs.Signed.{minus, signed, other_length}
use Rattle.exports.specs.Swatches.{channel_bytes, Fills}

-- Three bytes are written.
pub three_bytes : (l : List ℕ) (x y z : ℕ) → length l ≡ 3 → set (set (set l 0 x) 1 y) 2 z ≡ x ∷ y ∷ z ∷ []
three_bytes [] x y z e = absurd (omega (arith, e))
three_bytes (p ∷ []) x y z e = absurd (omega (arith, e))
three_bytes (p ∷ q ∷ []) x y z e = absurd (omega (arith, e))
three_bytes (p ∷ q ∷ r ∷ []) x y z e = refl
three_bytes (p ∷ q ∷ r ∷ s ∷ l) x y z e = absurd (omega (arith, e))

-- No verdict is both.
apart : (v : Verdict) (n : ℕ) → v ≡ accepted → v ≡ refused n → ⊥
apart v n a r = subst Accepted (sym a ∙ r) tt
  where
    Accepted : Verdict → Type 0
    Accepted accepted = Unit
    Accepted (refused k) = ⊥

-- A refused call that changes nothing, and an accepted one.
module _ {order : List Rule} {Written : List ℕ → Type 0} {before : List ℕ} where
  pub fills_refused : (n : ℕ) {r : ℤ} → first_that order ≡ refused n → r ≡ minus n → Fills order Written before before r
  fills_refused n e a = record {
    answer = a ∙ sym (ap (λ v. signed v 0) e);
    kept = λ _ _. refl;
    written = λ w. absurd (apart (first_that order) n w e);
  }

  pub fills_accepted : {after : List ℕ} {r : ℤ} → first_that order ≡ accepted → r ≡ pos 0 → Written after
      → Fills order Written before after r
  fills_accepted e a w = record {
    answer = a ∙ sym (ap (λ v. signed v 0) e);
    kept = λ n k. absurd (apart (first_that order) n e k);
    written = λ _. w;
  }

-- 52 is tried once the kinds are good, and the call's own numbers once the length is good too.
module _ (size : ℕ) (bytes : List ℕ) (wrong : Bool) (rules : List Rule) where
  pub other_length_lem : wrong ≡ false → (length bytes ≡ size → ⊥)
      → first_that (53 when wrong ∷ 52 when other_length size bytes ∷ rules) ≡ refused 52
  other_length_lem g n =
      first_passes 53 wrong (52 when other_length size bytes ∷ rules) g
      ∙ first_applies 52 (other_length size bytes) rules (rw (ne_eqb (length bytes) size n))

  pub own_numbers : wrong ≡ false → length bytes ≡ size
      → first_that (53 when wrong ∷ 52 when other_length size bytes ∷ rules) ≡ first_that rules
  own_numbers g e =
      first_passes 53 wrong (52 when other_length size bytes ∷ rules) g
      ∙ first_passes 52 (other_length size bytes) rules (rw (eq-eqb (length bytes) size e))

-- A kind of swatch that does not exist has no swatch, and one that does its own.
pub wrong_kind : (wrong : Bool) (w : Swatch) {e : Refusal} → Err e ≡ cond wrong (Err why.Kind) (Ok w) → wrong ≡ true
wrong_kind true w h = refl
wrong_kind false w h = let z : ◌≡◌ {A = ℕ} 0 1 = cc in absurd (omega arith)

pub right_kind : (wrong : Bool) (w : Swatch) {v : Swatch} → Ok v ≡ cond wrong (Err why.Kind) (Ok w) → (wrong ≡ false) × (v ≡ w)
right_kind true w h = let z : ◌≡◌ {A = ℕ} 0 1 = cc in absurd (omega arith)
right_kind false w h = (refl, cc)

-- Three channels are written in turn, each in the four bytes that are its own.
abbrev after_two : (l u v : List ℕ) → List ℕ
after_two l u v = take 4 (u ++ drop 4 l) ++ (v ++ drop 4 (drop 4 (u ++ drop 4 l)))

pub twelve_bytes : (l u v w : List ℕ) (r g b : Float) → u ≡ channel_bytes r → v ≡ channel_bytes g → w ≡ channel_bytes b →
    take 8 (after_two l u v) ++ (w ++ drop (length (after_two l u v) - 8) (drop 8 (after_two l u v))) ≡
    channel_bytes r ++ channel_bytes g ++ channel_bytes b
twelve_bytes l u v w r g b e f h =
    rw (e, f, h) (
    ap (λ t. channel_bytes r ++ channel_bytes g ++ channel_bytes b ++ t) (drop_of_length-le (drop 4 (drop 4 l)) (omega arith))
    )

-- What is at least another number is a number.
pub no_nan : (x r : Float) → T (le x r) → T (not (is_nan r))
unfolding le is_nan
no_nan nan nan h = absurd h
no_nan (inf t) nan h = absurd h
no_nan (fin t m e) nan h = absurd h
no_nan x (inf s) h = tt
no_nan x (fin s m e) h = tt
