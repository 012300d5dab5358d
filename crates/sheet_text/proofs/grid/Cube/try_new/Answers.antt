-- `Cube::try_new` meets its contract: the tests are made in the order's turn.
use borrow.Author.Tests.{lt-ltb, le-ltb, eq-eqb, ne_eqb}
use mathlib.Core.Path.{◌≡◌}
use mathlib.Core.Bool.{false}
use Prim.Native.Nat.{ℕ, ◌≤◌}
use Rattle.decide.specs.Refusal.{first_that}
use Rattle.cube.specs.Cube.{side_out}
use Rattle.sheet.specs.Part.{text_order}
use Rattle.sheet_text.proofs.grid.Cube.try_new.Goals as goal
use Rattle.sheet_text.proofs.grid.Cube.try_new.Goals.{then-side-lt2-via-then-side-lt2, then-side-lt2-via-else-side-lt2+then-side-gt64}

-- The side is from 2 to 64.
inside : (side : ℕ) → 2 ≤ side → side ≤ 64 → side_out side ≡ false
unfolding side_out
inside side least most = simp (le-ltb side 2 least, le-ltb 64 side most)

pub returns-then-side-lt2-clause-verdict : goal.returns-then-side-lt2-clause-verdict
unfolding first_that text_order side_out
returns-then-side-lt2-clause-verdict c =
    let side = c.args.side in
    elim c.then-side-lt2.branch [
      | then-side-lt2-via-then-side-lt2 w ↦ simp (lt-ltb side 2 w.if-side-lt2.true)
      | then-side-lt2-via-else-side-lt2+then-side-gt64 w ↦ simp (le-ltb side 2 w.if-side-lt2.false, lt-ltb 64 side w.if-side-gt64.true)
    ]

pub returns-then-bytes-s-clause-verdict : goal.returns-then-bytes-s-clause-verdict
unfolding first_that text_order
returns-then-bytes-s-clause-verdict c =
    simp (inside _ c.if-side-lt2.false c.if-side-gt64.false, ne_eqb _ _ c.if-bytes-s.true)

pub returns-clause-verdict : goal.returns-clause-verdict
unfolding first_that text_order
returns-clause-verdict c = simp (inside _ c.if-side-lt2.false c.if-side-gt64.false, eq-eqb _ _ c.if-bytes-s.false)
