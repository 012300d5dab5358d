-- A listing by whole planes, as many as the text has room for.
use Rattle.std.specs.Prelude.{◌≡◌, List, ℕ, ◌+◌, ◌-◌, ◌*◌, ◌≤◌, ◌<◌, length, take, drop}
use Rattle.sheet.specs.Part.{part}
use Rattle.sheet_listing.specs.declared.Planes.{Planes}

-- The part of the listing for the planes from z to before the next, S × S places each.
abbrev pub planes : (S : ℕ) (cube : List ℕ) (z next : ℕ) → List ℕ
planes S cube z next = part S (S * S * z) (S * S * (next - z)) cube

-- After the planes from z to before the next there is room for one more with every cell marked, and the heading.
abbrev pub Room : (S : ℕ) (cube : List ℕ) (z textLength next : ℕ) → Type 0
Room S cube z textLength next = length (planes S cube z next) + 21 * (S * S + 1) ≤ textLength

-- The text begins with the listing of the planes from z to before the next, and then holds what it held. One plane is
-- listed at least, and then it goes on exactly while there is room for one more.
pub record ListsPlanes (S : ℕ) (cube : List ℕ) (z : ℕ) (text after : List ℕ) (r : Planes) : Type 0 where
  pub some : z < r.next
  pub most : r.next ≤ S
  pub goes_on : (plane : ℕ) → z < plane → plane < r.next → Room S cube z (length text) plane
  pub ends : r.next < S → ¬ Room S cube z (length text) r.next
  pub lists : take r.bytes after ≡ planes S cube z r.next
  pub keeps : drop r.bytes after ≡ drop r.bytes text
  pub fits : r.bytes ≤ length text
  pub size : length after ≡ length text
