-- `list_planes` meets its contract: plane by plane, the listing of the planes so far is written from the front.
use Prim.Native.Nat.{ℕ, ◌-◌, ◌*◌, ◌≤◌}
use native.Mathlib.Nat.{mul-le-mul}
use Rattle.sheet_listing.proofs.ByPlane.{SoFar}
use Rattle.sheet_listing.proofs.list_planes.Given as goal

-- A plane of a side up to 40 has at most 1600 places.
pub square : {S : ℕ} → S ≤ 40 → S * S ≤ 1600
square h = mul-le-mul h h

abbrev pub invariant-loop-next : goal.invariant-loop-next
invariant-loop-next l = SoFar l.cube.side l.cube.bytes.now l.z l.fn.text l.text l.next l.bytes

abbrev pub decreases-loop-next : goal.decreases-loop-next
decreases-loop-next l = l.side - l.next
