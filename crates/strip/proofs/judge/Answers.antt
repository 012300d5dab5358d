-- `judge` meets its contract: the tests are made in the order's turn, and of a call that the strip does not take one applies.
use borrow.Author.Tests.{lt-ltb, le-ltb, ne_eqb}
use Rattle.std.proofs.Common.{◌≡◌, sym, ◌∙◌, true, false, ◌||◌, ℕ, ◌≤◌}
use Rattle.decide.specs.Some.{some_of}
use Rattle.decide.specs.Refusal.{first_that, right_after}
use Rattle.cube.specs.Cube.{side_out}
use Rattle.drawing.specs.Refusals.{order}
use Rattle.strip.specs.Strip.{side_above, count_above, strip_order, strip_verdict, beyond}
use Rattle.strip.proofs.judge.Goals as goal
use Rattle.strip.proofs.judge.Goals.{then-side-lt2-via-then-side-lt2, then-side-lt2-via-else-side-lt2+then-side-gt64}

-- The side is from 2 to 64,
inside : (S : ℕ) → 2 ≤ S → S ≤ 64 → side_out S ≡ false
unfolding side_out
inside S l h = simp (le-ltb S 2 l, le-ltb 64 S h)

-- and up to 17.
small : (S : ℕ) → S ≤ 17 → side_above S ≡ false
unfolding side_above
small S h = le-ltb 17 S h

pub returns-then-not-is_above : goal.returns-then-not-is_above
unfolding beyond
returns-then-not-is_above c = record { is = λ o m n k. rw n (sym c.is_above.ensures ∙ c.if-not-is_above.true) }

pub returns-then-side-lt2 : goal.returns-then-side-lt2
unfolding first_that right_after order strip_order strip_verdict side_out
returns-then-side-lt2 c =
    let side = c.args.side in
    let outside : side_out side ≡ true =
    elim c.then-side-lt2.branch [
      | then-side-lt2-via-then-side-lt2 w ↦ simp (lt-ltb side 2 w.if-side-lt2.true)
      | then-side-lt2-via-else-side-lt2+then-side-gt64 w ↦
          simp (le-ltb side 2 w.if-side-lt2.false, lt-ltb 64 side w.if-side-gt64.true)
    ] in
    record { is = λ o m n k. simp outside }

pub returns-then-side-gt17 : goal.returns-then-side-gt17
unfolding first_that right_after order side_above strip_order strip_verdict
returns-then-side-gt17 c =
    record { is = λ o m n k. simp (inside c.args.side c.if-side-lt2.false c.if-side-gt64.false, lt-ltb 17 c.args.side c.if-side-gt17.true) }

pub returns-then-not-is_volume : goal.returns-then-not-is_volume
unfolding first_that right_after order strip_order strip_verdict
returns-then-not-is_volume c =
    record {
      is = λ o m n k.
          simp (
            inside c.args.side c.if-side-lt2.false c.if-side-gt64.false,
            small c.args.side c.if-side-gt17.false,
            ← c.is_volume.ensures,
            c.if-not-is_volume.true,
          );
    }

pub returns-then-mark-eq0 : goal.returns-then-mark-eq0
unfolding first_that right_after order strip_order strip_verdict
returns-then-mark-eq0 c =
    record {
      is = λ o m n k.
          simp (
            inside c.args.side c.if-side-lt2.false c.if-side-gt64.false,
            small c.args.side c.if-side-gt17.false,
            ← c.is_volume.ensures,
            c.if-not-is_volume.false,
            k,
            c.if-mark-eq0.true,
          );
    }

pub returns-then-some_out : goal.returns-then-some_out
unfolding first_that right_after order strip_order strip_verdict
returns-then-some_out c =
    record {
      is = λ o m n k.
          simp (
            inside c.args.side c.if-side-lt2.false c.if-side-gt64.false,
            small c.args.side c.if-side-gt17.false,
            ← c.is_volume.ensures,
            c.if-not-is_volume.false,
            k,
            ne_eqb _ 0 c.if-mark-eq0.false,
            m,
            n,
            ← c.some_out.ensures,
            c.if-some_out.true,
          );
    }

pub returns : goal.returns
unfolding first_that right_after order strip_order strip_verdict
returns c =
    let above : some_of count_above c.args.counts.now ≡ true =
    simp (small c.args.side c.if-side-gt17.false) at (sym c.is_above.ensures ∙ c.if-not-is_above.false) in
    record {
      is = λ o m n k.
          simp (
            inside c.args.side c.if-side-lt2.false c.if-side-gt64.false,
            small c.args.side c.if-side-gt17.false,
            ← c.is_volume.ensures,
            c.if-not-is_volume.false,
            k,
            ne_eqb _ 0 c.if-mark-eq0.false,
            m,
            n,
            ← c.some_out.ensures,
            c.if-some_out.false,
            above,
          );
    }
