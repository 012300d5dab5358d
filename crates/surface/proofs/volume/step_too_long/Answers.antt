-- `step_too_long` of a volume meets its contract: no difference that was passed is beyond 2N, and the first slice, or the first
-- two, with one that is end the search.
use borrow.Author.Count.{below_more}
use mathlib.Core.Path.{◌≡◌, refl, sym, ◌∙◌, ap}
use mathlib.Core.Bool.{Bool}
use Prim.Native.Nat.{ℕ, ◌+◌}
use native.Mathlib.Numerals.{add-one}
use native.Mathlib.Omega.{arith}
use lib.IntN.{ℤ}
use mir.Facts.{to_z-of_z}
use Rattle.cubic.specs.Differences.{nexts}
use Rattle.surface.specs.Surface.{Surface, surface_at, long_steps, some_long}
use Rattle.surface.specs.Volume.{Volume, slice_of, next_volume, volume_at, along_v, long_in_slice, long_to_next}
use Rattle.surface.proofs.Search.{found_inside, found_between, found_nowhere}
use Rattle.surface.proofs.volume.step_too_long.Goals as goal
use Rattle.surface.proofs.volume.step_too_long.Invariants.{AtSlice}

pub search-init : goal.search-init
unfolding volume_at surface_at nexts
search-init c = record {
  within = omega arith;
  rest_is = refl;
  passed = λ b h. absurd (omega arith);
  passed_on = λ b h. absurd (omega arith);
}

-- At slice k, with the slice, the first differences along v, and what the searches found.
module _ {v rest : Volume} {N : ℤ} {n m l k : ℕ} (a : AtSlice v N n m l rest k) where
  slice_is : {s : Surface} → s ≡ slice_of rest → s ≡ slice_of (volume_at v k)
  slice_is e = e ∙ ap slice_of a.rest_is

  in_slice : {s : Surface} {r : Bool} → s ≡ slice_of rest → r ≡ long_steps s N n m → r ≡ long_in_slice v N n m k
  in_slice e h = h ∙ ap (λ x. long_steps x N n m) (slice_is e)

  steps_is : {d : Volume} {s : Surface} → d ≡ along_v rest → s ≡ slice_of d → s ≡ slice_of (along_v (volume_at v k))
  steps_is e h = h ∙ ap slice_of (e ∙ ap along_v a.rest_is)

  to_next : {d : Volume} {s : Surface} {r : Bool} → d ≡ along_v rest → s ≡ slice_of d →
      r ≡ some_long s N (m + 1) (n + 1) → r ≡ long_to_next v N n m k
  to_next e h q = rw (steps_is e h, add-one, add-one) at q

pub step_too_long-requires : goal.step_too_long-requires
step_too_long-requires c =
    let a = c.search.invariant in
    rw (slice_is a c.slice.ensures, to_z-of_z c.ranges.scale) (c.requires.in_slice c.search.k a.within)

pub some_long-requires : goal.some_long-requires
some_long-requires c =
    let a = c.search.invariant in
    rw (steps_is a c.steps.ensures c.slice-in-search.ensures, to_z-of_z c.ranges.scale, add-one, add-one)
    (c.requires.to_next c.search.k (omega (arith, a.within, c.if-k-l.false)))

pub next-rest-requires : goal.next-rest-requires
next-rest-requires c =
    let a = c.search.invariant in
    rw a.rest_is (c.requires.room c.search.k (omega (arith, a.within, c.if-k-l.false)))

pub search-preserved : goal.search-preserved
unfolding volume_at surface_at nexts
search-preserved c =
    let a = c.search.invariant in
    record {
      within = omega (arith, a.within, c.if-k-l.false);
      rest_is = rw add-one (c.next-rest.ensures ∙ ap next_volume a.rest_is);
      passed =
          below_more _ _ a.passed
          (sym (in_slice a c.slice.ensures c.step_too_long.ensures) ∙ c.if-step_too_long.false);
      passed_on =
          below_more _ _ a.passed_on
          (sym (to_next a c.steps.ensures c.slice-in-search.ensures c.some_long.ensures) ∙
          c.if-some_long.false);
    }

pub returns-then-step_too_long : goal.returns-then-step_too_long
returns-then-step_too_long c =
    let s = c.args in
    let a = c.search.invariant in
    sym (found_inside s.volume s.scale s.n s.m s.l a.within
    (rw (to_z-of_z c.ranges.scale)
    at (sym (in_slice a c.slice.ensures c.step_too_long.ensures) ∙ c.if-step_too_long.true)))

pub returns-then-k-l : goal.returns-then-k-l
returns-then-k-l c =
    let s = c.args in
    let a = c.search.invariant in
    let none = sym (in_slice a c.slice.ensures c.step_too_long.ensures) ∙ c.if-step_too_long.false in
    sym (found_nowhere s.volume s.scale s.n s.m s.l
    (λ q h. rw (to_z-of_z c.ranges.scale) at (below_more _ _ a.passed none q (omega (arith, c.if-k-l.true))))
    (λ q h. rw (to_z-of_z c.ranges.scale) at (a.passed_on q (omega (arith, c.if-k-l.true)))))

pub returns-then-some_long : goal.returns-then-some_long
returns-then-some_long c =
    let s = c.args in
    let a = c.search.invariant in
    sym (found_between s.volume s.scale s.n s.m s.l (omega (arith, a.within, c.if-k-l.false))
    (rw (to_z-of_z c.ranges.scale)
    at (sym (to_next a c.steps.ensures c.slice-in-search.ensures c.some_long.ensures) ∙ c.if-some_long.true)))
