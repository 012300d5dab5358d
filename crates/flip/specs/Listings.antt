-- What the listings of a curve and of its flip have in common.
use Rattle.std.specs.Prelude.{◌≡◌, List, ℕ, ◌+◌, ◌*◌, ◌≤◌, length, get_or, Result, Ok, Err}
use Rattle.decide.specs.declared.Refusal.{Refusal}

-- x y z from one byte of a list on are x y z from a byte of another on.
pub record SameCell (list : List ℕ) (at : ℕ) (back : List ℕ) (place : ℕ) : Type 0 where
  pub x : get_or list at 0 ≡ get_or back place 0
  pub y : get_or list (at + 1) 0 ≡ get_or back (place + 1) 0
  pub z : get_or list (at + 2) 0 ≡ get_or back (place + 2) 0

-- Both lists begin with so many cells, the same in reverse order: cell i of the one is cell k of the other where
-- i + k + 1 is their number, which needs no subtraction.
pub record Reversed (count : ℕ) (list back : List ℕ) : Type 0 where
  pub room : 3 * count ≤ length list
  pub space : 3 * count ≤ length back
  pub cells : (i k : ℕ) → i + k + 1 ≡ count → SameCell list (3 * i) back (3 * k)

-- The two listings agree: the same refusal; or as many samples, and the same cells in reverse order.
abbrev pub Agree : (list back : List ℕ) (one other : Result ℕ Refusal) → Type 0
Agree list back (Ok n) (Ok m) = (n ≡ m) × Reversed n list back
Agree list back (Ok n) (Err e) = ⊥
Agree list back (Err d) (Ok n) = ⊥
Agree list back (Err d) (Err e) = d ≡ e

-- What a listing leaves of a list: its length, and the bytes past the samples'; if it is refused, all.
abbrev pub KeepsRest : (list listNow : List ℕ) (r : Result ℕ Refusal) → Type 0
KeepsRest list listNow (Ok n) =
    (length listNow ≡ length list) × ((q : ℕ) → 3 * n ≤ q → get_or listNow q 0 ≡ get_or list q 0)
KeepsRest list listNow (Err e) = listNow ≡ list
