-- `some_long` meets its contract: no value that was passed is beyond 2N, and the first that is ends the search.
use borrow.Author.Count.{below_more}
use mathlib.Core.Path.{◌≡◌, refl, sym, ◌∙◌, ap}
use mathlib.Core.Bool.{Bool, false}
use Prim.Native.Nat.{ℕ, ◌+◌, ◌-◌, ◌<◌}
use native.Mathlib.Numerals.{add-one}
use native.Mathlib.Omega.{arith}
use lib.Dec.{lit<}
use lib.IntN.{ℤ}
use mir.Facts.{to_z-of_z}
use Rattle.cubic.specs.Differences.{Cubic, next_of, nexts}
use Rattle.cubic.specs.Axis.{long_of}
use Rattle.cubic.specs.Room.{Room}
use Rattle.cubic.proofs.Fits.{read, held}
use Rattle.surface.specs.Surface.{Surface, row_of, next_surface, surface_at, cubic_at, value_at, Searchable}
use Rattle.surface.proofs.Search.{found, nowhere}
use Rattle.surface.proofs.some_long.Invariants.{AtRow, AtSample}
use Rattle.surface.proofs.some_long.Goals as goal

-- At sample i of row j, with what the test answers.
module _ {s rest : Surface} {N scale : ℤ} {rows samples j i : ℕ} {row : Cubic}
    (p : Searchable s scale rows samples) (a : AtRow s N rows samples rest j) (b : AtSample rest N samples row i) where
  -- A value of the row is the surface's.
  in_row : (k : ℕ) → long_of N (nexts k (row_of rest)).value ≡ long_of N (value_at s k j)
  unfolding cubic_at
  in_row k = ap (λ r. long_of N (nexts k (row_of r)).value) a.rest_is

  row_room : Room row
  unfolding cubic_at
  row_room = rw (b.row_is, a.rest_is) (p.sample_room i j b.within a.within)

  tested : {r : Bool} → r ≡ long_of N (read row.value) → r ≡ long_of N (nexts i (row_of rest)).value
  tested q = q ∙ ap (long_of N) ((held row_room.value (lit< tt)).same ∙ ap (λ r. r.value) b.row_is)

  -- Past the test.
  passed : {r : Bool} → r ≡ long_of N (read row.value) → r ≡ false →
      (k : ℕ) → k < i + 1 → long_of N (nexts k (row_of rest)).value ≡ false
  passed q e = below_more _ _ b.passed (sym (tested q) ∙ e)

  -- At the last sample of row j: none of its values is beyond 2N.
  row_passed : {r : Bool} → r ≡ long_of N (read row.value) → r ≡ false → i ≡ samples - 1 →
      (k : ℕ) → k < samples → long_of N (value_at s k j) ≡ false
  row_passed q e z k h = sym (in_row k) ∙ passed q e k (omega arith)

pub search-init : goal.search-init
unfolding surface_at nexts
search-init c = record {
  within = c.requires.some_row;
  rest_is = refl;
  passed = λ b h. absurd (omega arith);
}

pub loop-rest-init : goal.loop-rest-init
unfolding nexts
loop-rest-init c = record {
  within = c.requires.some-sample;
  row_is = c.slice-row.ensures;
  passed = λ k h. absurd (omega arith);
}

pub is_long-requires : goal.is_long-requires
is_long-requires c = rw (to_z-of_z c.ranges.scale) c.requires.scale

pub next-row-requires : goal.next-row-requires
next-row-requires c = row_room c.requires c.search.invariant c.loop-rest.invariant

-- A further sample.
pub loop-rest-preserved : goal.loop-rest-preserved
unfolding nexts
loop-rest-preserved c =
    let b = c.loop-rest.invariant in
    record {
      within = omega (arith, b.within, c.if-i-last.false);
      row_is = rw add-one (c.next-row.ensures ∙ ap next_of b.row_is);
      passed = passed c.requires c.search.invariant b c.is_long.ensures c.if-is_long.false;
    }

-- A further row.
pub next-rest-requires : goal.next-rest-requires
next-rest-requires c =
    let a = c.search.invariant in rw a.rest_is (c.requires.row_room c.search.j a.within)

pub search-preserved : goal.search-preserved
unfolding surface_at nexts
search-preserved c =
    let a = c.search.invariant in
    let b = c.loop-rest.invariant in
    record {
      within = omega (arith, a.within, c.if-j-last_row.false);
      rest_is = rw add-one (c.next-rest.ensures ∙ ap next_surface a.rest_is);
      passed =
          below_more _ _ a.passed
          (row_passed c.requires a b c.is_long.ensures c.if-is_long.false c.if-i-last.true);
    }

pub returns-then-is_long : goal.returns-then-is_long
returns-then-is_long c =
    let s = c.args in
    let a = c.search.invariant in
    let b = c.loop-rest.invariant in
    sym (found s.surface s.scale s.rows s.samples b.within a.within
    (rw (to_z-of_z c.ranges.scale)
    at (sym (in_row c.requires a b c.loop-rest.i) ∙ sym (tested c.requires a b c.is_long.ensures) ∙
    c.if-is_long.true)))

pub returns-then-j-last_row : goal.returns-then-j-last_row
returns-then-j-last_row c =
    let s = c.args in
    let a = c.search.invariant in
    let b = c.loop-rest.invariant in
    sym (nowhere s.surface s.scale s.rows s.samples
    (λ q hq k hk. rw (to_z-of_z c.ranges.scale)
    at (below_more _ _ a.passed
    (row_passed c.requires a b c.is_long.ensures c.if-is_long.false c.if-i-last.true)
    q (omega (arith, c.if-j-last_row.true)) k hk)))
