-- `put_part` meets its contract: the heading where the part begins the listing, and the lines of the places that there
-- are.
use borrow.Author.Tests.{eq-eqb, ne_eqb}
use mathlib.Core.Path.{◌≡◌, refl, sym, ◌∙◌}
use mathlib.Core.Logic.{⊎_elim}
use mathlib.Core.Bool.{cond}
use mathlib.Core.List.{List, [], ◌++◌}
use Prim.Native.Nat.{ℕ, min}
use native.Mathlib.Omega.{arith}
use lib.Dec.{leb, eqb}
use lib.ListN.{length, take, drop, length-drop}
use lib.Seq.{take_all}
use Rattle.decide.proofs.Truth.{decided, at_most, not_at_most}
use Rattle.sheet.specs.Printed.{heading}
use Rattle.sheet.specs.Part.{part}
use Rattle.sheet_text.specs.Puts.{Puts}
use Rattle.sheet_text.proofs.Puts.{puts_rest}
use Rattle.sheet_listing.proofs.put_part.Goals as goal
use Rattle.sheet_listing.proofs.put_part.Goals.{then-first-eq0, else-first-eq0}

-- As many elements as there are.
take_min : (n : ℕ) (l : List ℕ) → take (min n (length l)) l ≡ take n l
take_min n l =
    ⊎_elim (λ t. let h = (at_most n (length l)).0 t in let e : min n (length l) ≡ n = omega arith in rw e)
    (λ f. let h = not_at_most n (length l) f in take_all (min n (length l)) l (omega arith) ∙ sym (take_all n l (omega arith)))
    (decided (leb n (length l)))

pub returns : goal.returns
unfolding part
returns c =
    let a = c.args in
    let h = c.if-first-eq0.heading.now in
    let places : take c.min-n.result (drop a.first a.cube.bytes.now) ≡ take a.count (drop a.first a.cube.bytes.now) =
    rw (c.min-n.ensures, c.saturating_sub.ensures, ← length-drop) (take_min a.count _) in
    -- The heading, if there is one.
    let is : h ≡ cond (eqb a.first 0) heading [] =
    elim c.if-first-eq0.branch [
      | then-first-eq0 w ↦ rw (w.heading-is, eq-eqb _ _ w.if-first-eq0.true)
      | else-first-eq0 w ↦ rw (w.heading-is, ne_eqb _ _ w.if-first-eq0.false)
    ] in
    let headed : Puts h a.text.now (c.copy_from_slice.new.self ++ drop (length h) a.text.now) (length h) =
    record { holds = rw c.copy_from_slice.ensures.after; counts = refl } in
    rw (← is) (puts_rest headed refl (rw places at c.put_cells.ensures))
