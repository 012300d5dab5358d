-- A call that writes of a cube into a text: a number that refuses the cube refuses the call, and of a cube that none
-- refuses the room decides. And what a call has that no number refuses.
use mathlib.Core.Path.{◌≡◌, refl, sym}
use mathlib.Core.Bool.{Bool, true, false, cond}
use Prim.Native.Nat.{ℕ, ◌≤◌}
use lib.Dec.{eqb}
use borrow.Author.Tests.{not-false, eqb-true}
use Rattle.std.specs.Prelude.{not}
use Rattle.decide.specs.Refusal.{accepted, refused, first_that}
use Rattle.decide.proofs.FirstThat.{accepted_passes, not_both}
use Rattle.decide.proofs.Truth.{false_iff}
use Rattle.cube.specs.Cube.{side_out, volume}
use Rattle.cube.proofs.Words.{side_in_lem}
use Rattle.sheet.specs.Part.{text_order}

-- A call that no number refuses.
pub record Passes (S cubeLength : ℕ) (short : Bool) : Type 0 where
  pub side_least : 2 ≤ S
  pub side_most : S ≤ 64
  pub whole : cubeLength ≡ volume S
  pub room : short ≡ false

module _ (S cubeLength : ℕ) (short : Bool) where
  pub passes : first_that (text_order S cubeLength short) ≡ accepted → Passes S cubeLength short
  unfolding text_order
  passes e =
      let a = accepted_passes _ _ _ e in
      let b = accepted_passes _ _ _ a.1 in
      let c = accepted_passes _ _ _ b.1 in
      let side = (side_in_lem S).0 ((false_iff _).0 a.0) in
      record {
        side_least = side.0;
        side_most = side.1;
        whole = eqb-true cubeLength (volume S) (not-false (eqb cubeLength (volume S)) b.0);
        room = c.0;
      }

  pub cube_refused : {k : ℕ} → refused k ≡ first_that (text_order S cubeLength false) →
      first_that (text_order S cubeLength short) ≡ refused k
  unfolding text_order first_that
  cube_refused {k} = by_tests (side_out S) (not (eqb cubeLength (volume S)))
    where
      by_tests : (p q : Bool) → refused k ≡ cond p (refused 11) (cond q (refused 21) accepted) →
          cond p (refused 11) (cond q (refused 21) (cond short (refused 22) accepted)) ≡ refused k
      by_tests true q e = sym e
      by_tests false true e = sym e
      by_tests false false e = absurd (not_both e)

  pub room_decides : accepted ≡ first_that (text_order S cubeLength false) →
      first_that (text_order S cubeLength short) ≡ cond short (refused 22) accepted
  unfolding text_order first_that
  room_decides = by_tests (side_out S) (not (eqb cubeLength (volume S)))
    where
      by_tests : (p q : Bool) → accepted ≡ cond p (refused 11) (cond q (refused 21) accepted) →
          cond p (refused 11) (cond q (refused 21) (cond short (refused 22) accepted)) ≡ cond short (refused 22) accepted
      by_tests true q e = absurd (not_both (sym e))
      by_tests false true e = absurd (not_both (sym e))
      by_tests false false e = refl
