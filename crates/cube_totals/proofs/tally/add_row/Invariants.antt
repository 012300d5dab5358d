-- `add_row` meets its contract: after x turns the first x cells are added, and the bound on the numbers has risen with each.
use mathlib.Core.Path.{◌≡◌, sym, ◌∙◌, ap}
use mathlib.Core.List.{List}
use Prim.Native.Nat.{ℕ, ◌+◌, ◌*◌, ◌^◌, ◌≤◌, ◌<◌}
use native.Mathlib.Numerals.{add-one}
use native.Mathlib.Omega.{arith}
use lib.ListN.{length, get_or, take}
use lib.Seq.{take_all}
use Rattle.cube_totals.specs.declared.tally.Row.{Row}
use Rattle.cube_totals.specs.Table.{added, added_row, Below}
use Rattle.cube_totals.proofs.Table.{below_added, below_more, row_next}
use Rattle.cube_totals.proofs.tally.add_row.Given as goal

-- The first x cells are added.
pub record SoFar (marks : List ℕ) (r : Row) (table₀ table : List ℕ) (x : ℕ) : Type 0 where
  pub within : x ≤ length marks
  pub holds : table ≡ added_row (take x marks) 0 r table₀
  pub below : Below (2 ^ 60 + 2 ^ 40 * x) table

-- One cell more.
pub next : {marks : List ℕ} {r : Row} {table₀ table after : List ℕ} {x : ℕ} → SoFar marks r table₀ table x → x < length marks →
    length marks ≤ 64 → (r.y ≤ 64) × (r.z ≤ 64) → get_or marks x 0 < 256 →
    after ≡ added (get_or marks x 0) x r.y r.z table → SoFar marks r table₀ after (x + 1)
next {marks} {r} {table₀} {x = x} s l size small byte e =
    let rise : 2 ^ 60 + 2 ^ 40 * x + 2 ^ 40 ≡ 2 ^ 60 + 2 ^ 40 * (x + 1) = omega arith in
    record {
      within = omega arith;
      holds = e ∙ ap (added (get_or marks x 0) x r.y r.z) s.holds ∙ rw (add-one x) (sym (row_next marks x r table₀ l));
      below =
          rw (e, ← rise)
          (below_added (get_or marks x 0) x r.y r.z byte (omega arith) small.0 small.1 s.below);
    }

-- Once all cells are added.
pub whole : {marks : List ℕ} {r : Row} {table₀ table : List ℕ} {x : ℕ} → SoFar marks r table₀ table x → length marks ≤ x →
    table ≡ added_row marks 0 r table₀
whole {marks} {x = x} s all = rw (take_all x marks all) at s.holds

-- The bound when a cell is added.
pub room : {marks : List ℕ} {r : Row} {table₀ table : List ℕ} {x : ℕ} → SoFar marks r table₀ table x → length marks ≤ 64 →
    Below (2 ^ 61) table
room s size = below_more (2 ^ 61) (omega (arith, s.within)) s.below

abbrev pub invariant-loop-x : goal.invariant-loop-x
invariant-loop-x l = SoFar l.marks l.row l.initial.table l.table l.x
