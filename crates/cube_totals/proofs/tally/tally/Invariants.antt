-- `tally` meets its contract: before each row the table is that of the bytes before it.
use mathlib.Core.Path.{◌≡◌, refl, sym, ◌∙◌, ap}
use mathlib.Core.List.{List, ◌++◌}
use Prim.Native.Nat.{ℕ, ◌+◌, ◌*◌, ◌≤◌, ◌<◌}
use native.Mathlib.Nat.{mul-le-mul_left}
use native.Mathlib.Omega.{arith}
use lib.ListN.{length, take, drop, length-drop, length-append}
use lib.Seq.{take_all, take_at, drop_at, drop-drop}
use Rattle.cube.specs.Cube.{volume}
use Rattle.totals.specs.Sums.{Bytes}
use Rattle.cube_totals.specs.declared.tally.Row.{Row}
use Rattle.cube_totals.specs.Table.{Table, added_row}
use Rattle.cube_totals.specs.Next.{row_number, Next}
use Rattle.cube_totals.proofs.Table.{row_added}
use Rattle.cube_totals.proofs.tally.tally.Given as goal

-- The byte at which a row begins.
abbrev pub begins : (S : ℕ) → Row → ℕ
begins S r = S * row_number S r

-- The table of the bytes before a row, and those from it on are left.
pub record SoFar (S : ℕ) (cube table rest : List ℕ) (r : Row) : Type 0 where
  pub within : begins S r ≤ length cube
  pub y_in : r.y < S
  pub left : rest ≡ drop (begins S r) cube
  pub tallied : Table S (take (begins S r) cube) table

module _ {S : ℕ} {cube table rest : List ℕ} {r : Row} (s : SoFar S cube table rest r) (size : length cube ≡ volume S) where
  -- While a byte is left, a whole row is, and it is one of the cube.
  few : begins S r < length cube → row_number S r < S * S
  few l =
      let g : ¬ (S * S ≤ row_number S r) = λ h. omega (arith, mul-le-mul_left S h) in
      omega arith

  whole : begins S r < length cube → begins S r + S ≤ length cube
  whole l = omega (arith, mul-le-mul_left S (few l))

  -- Once no row is left, no byte is.
  pub done : length rest < S → Table S cube table
  done l =
      let g : ¬ (begins S r < length cube) = λ h. omega (arith, whole h, l, ap length s.left, length-drop (begins S r) cube) in
      rw (take_all (begins S r) cube (omega (arith, g))) at s.tallied

  -- A row more.
  module _ (least : 2 ≤ S) (marks rest' : List ℕ) (is : rest ≡ marks ++ rest') (row : length marks ≡ S) where
    parts : drop (begins S r) cube ≡ marks ++ rest'
    parts = sym s.left ∙ is

    inside : begins S r + S ≤ length cube
    inside =
        let g : S ≤ length (drop (begins S r) cube) = rw (parts, length-append) (omega (arith, row)) in
        omega (arith, g, length-drop (begins S r) cube, s.within)

    pub z_in : r.z < S
    z_in = let g : ¬ (S ≤ r.z) = λ h. omega (arith, mul-le-mul_left S h, few (omega (arith, inside))) in omega arith

    pub next : {r' : Row} {after : List ℕ} → Bytes marks → Next S r r' → after ≡ added_row marks 0 r table →
        SoFar S cube after rest' r'
    next {r'} {after} bytes n e =
        let follows : begins S r' ≡ begins S r + S = omega (arith, ap (S *◌) n.is) in
        let these : take S (drop (begins S r) cube) ≡ marks = rw parts (take_at marks rest' S row) in
        record {
          within = omega (arith, inside, follows);
          y_in = n.y_in;
          left = sym (drop_at marks rest' S row) ∙ ap (drop S) (sym parts) ∙ drop-drop S (begins S r) cube ∙ ap (λ k. drop k cube) (sym follows);
          tallied =
              rw (follows, e, ← these) (row_added S cube (begins S r) r s.y_in refl inside (rw these bytes) s.tallied);
        }

abbrev pub invariant-loop-marks : goal.invariant-loop-marks
invariant-loop-marks l =
    (l.marks-iterator.size ≡ l.cube.side) × SoFar l.cube.side l.cube.bytes.now l.table l.marks-iterator.rest.now l.row
