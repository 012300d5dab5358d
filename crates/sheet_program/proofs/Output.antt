-- Of the parts alone: the planes that `list_planes` lists in turn, put together, and a refusal line are the output of
-- the input. No function's proof cites these laws, since no contract can say what is written.
use mathlib.Core.Path.{◌≡◌, refl, sym, ◌∙◌, ap}
use mathlib.Core.List.{List, [], ◌∷◌, ◌++◌}
use Prim.Native.Nat.{ℕ, ◌-◌, ◌+◌, ◌*◌, ◌≤◌, ◌<◌}
use native.Mathlib.Nat.{mul-add, mul-pos}
use native.Mathlib.Omega.{arith}
use lib.ListN.{length, take}
use lib.Seq.{length-take-le}
use borrow.Author.Tests.{ne_eqb}
use Rattle.cube.specs.Cube.{volume}
use Rattle.sheet.specs.Printed.{cell_lines, listing, printed, output}
use Rattle.sheet.specs.Part.{part}
use Rattle.sheet.proofs.Parts.{part_append, part_all}
use Rattle.sheet_listing.specs.declared.Planes.{Planes}
use Rattle.sheet_listing.specs.ByPlane.{ListsPlanes}
use Rattle.sheet_program.proofs.Drawn.{Drawn, Refused}

-- Planes listed in turn from plane z to the last, one write for some planes each.
pub data InTurn (S : ℕ) (cube : List ℕ) : (z : ℕ) (writes : List (List ℕ)) → Type 0 where
  done : InTurn S cube S []
  some : {z : ℕ} {write : List ℕ} {writes : List (List ℕ)} {before text : List ℕ} {r : Planes} →
      ListsPlanes S cube z before text r → write ≡ take r.bytes text → InTurn S cube r.next writes →
      InTurn S cube z (write ∷ writes)

-- All that is written.
unfoldable pub written : List (List ℕ) → List ℕ
written [] = []
written (w ∷ ws) = w ++ written ws

-- What is left to print from plane z on.
module _ (S : ℕ) (positive : 0 < S) (cube : List ℕ) where
  abbrev left : ℕ → List ℕ
  left z = part S (S * S * z) (S * S * (S - z)) cube

  nothing_left : [] ≡ left S
  unfolding part cell_lines
  nothing_left =
      let self : S - S ≡ 0 = omega arith in
      let none : S * S * (S - S) ≡ 0 = ap (S * S *◌) self ∙ omega arith in
      let past : ¬ (S * S * S ≡ 0) = λ e. omega (arith, e, mul-pos (mul-pos positive positive) positive) in
      rw (none, ne_eqb (S * S * S) 0 past) refl

  some_less : {z next : ℕ} → z < next → next ≤ S → part S (S * S * z) (S * S * (next - z)) cube ++ left next ≡ left z
  some_less {z} {next} h l =
      let q : ℕ = S * S in
      let d : ℕ = next - z in
      let from : z + d ≡ next = omega arith in
      let rest : d + (S - next) ≡ S - z = omega arith in
      let after : q * z + q * d ≡ q * next = sym (mul-add q z d) ∙ ap (q *◌) from in
      let all : q * d + q * (S - next) ≡ q * (S - z) = sym (mul-add q d (S - next)) ∙ ap (q *◌) rest in
      let more : 0 < d = omega arith in
      ap (λ p. part S (q * z) (q * d) cube ++ part S p (q * (S - next)) cube) (sym after) ∙
      part_append S (q * z) (q * d) (q * (S - next)) cube (omega (arith, mul-pos (mul-pos positive positive) more)) ∙
      ap (λ n. part S (q * z) n cube) all

  in_turn_lem : {z : ℕ} {writes : List (List ℕ)} → InTurn S cube z writes → written writes ≡ left z
  unfolding written
  in_turn_lem done = nothing_left
  in_turn_lem {z} (some {writes = ws} {r = r} l e rest) =
      ap (◌++ written ws) (e ∙ l.lists) ∙ ap (part S (S * S * z) (S * S * (r.next - z)) cube ++◌) (in_turn_lem rest) ∙
      some_less l.some l.most

  -- Planes listed in turn from the first are the listing.
  pub listing_in_turn : {writes : List (List ℕ)} → length cube ≡ volume S → InTurn S cube 0 writes →
      written writes ≡ listing S cube
  listing_in_turn e w =
      let zero : S * S * 0 ≡ 0 = omega arith in
      let same : S - 0 ≡ S = omega arith in
      let whole : S * S * (S - 0) ≡ length cube = ap (S * S *◌) same ∙ sym e in
      in_turn_lem w ∙ ap (λ p. part S p (S * S * (S - 0)) cube) zero ∙
      part_all S (S * S * (S - 0)) cube (omega (arith, whole))

-- Planes of a drawn sheet's cube listed in turn are the output of the input,
pub accepted_output : {input bufferNow : List ℕ} {S : ℕ} → Drawn input bufferNow S → {writes : List (List ℕ)} →
    InTurn S (take (volume S) bufferNow) 0 writes → written writes ≡ output input
unfolding output
accepted_output {bufferNow = bufferNow} {S} d w =
    listing_in_turn S (omega (arith, d.side_least)) (take (volume S) bufferNow)
    (length-take-le (volume S) bufferNow d.within) w ∙ ap (listing S) d.cube ∙ ap printed (sym d.judged)

-- and so is a refused sheet's line.
pub refused_output : {input textNow : List ℕ} {bytes : ℕ} → Refused input textNow bytes → take bytes textNow ≡ output input
unfolding output
refused_output r = r.holds ∙ ap printed (sym r.judged)
