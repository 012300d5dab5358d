-- The contract of `list_planes` fixes the next plane, the number of bytes and what the text holds.
use mathlib.Core.Path.{◌≡◌, sym, ◌∙◌, ap, ap₂}
use mathlib.Core.Logic.{⊎_elim}
use mathlib.Core.List.{List, ◌++◌}
use Prim.Native.Nat.{ℕ, ◌≤◌}
use native.Mathlib.Omega.{arith}
use lib.Dec.{ltb}
use lib.ListN.{length, take, drop, take-append-drop}
use lib.Seq.{length-take-le}
use Rattle.decide.proofs.Truth.{decided, less, not_less}
use Rattle.sheet_listing.specs.declared.Planes.{Planes}
use Rattle.sheet_listing.specs.ByPlane.{planes, ListsPlanes}

module _ {S : ℕ} {cube : List ℕ} {z : ℕ} {text : List ℕ} where
  -- No outcome goes on where another ends.
  no_further : {a b : List ℕ} {r s : Planes} → ListsPlanes S cube z text a r → ListsPlanes S cube z text b s →
      s.next ≤ r.next
  no_further {r = r} {s} p q =
      ⊎_elim
      (λ t.
      let l = (less r.next s.next).0 t in
      absurd (p.ends (omega (arith, l, q.most)) (q.goes_on r.next p.some l)))
      (λ f. not_less r.next s.next f) (decided (ltb r.next s.next))

  bytes_of : {a : List ℕ} {r : Planes} → ListsPlanes S cube z text a r → r.bytes ≡ length (planes S cube z r.next)
  bytes_of {a} {r} p = sym (length-take-le r.bytes a (omega (arith, p.fits, p.size))) ∙ ap length p.lists

  pub planes_unique : {a b : List ℕ} {r s : Planes} → ListsPlanes S cube z text a r → ListsPlanes S cube z text b s →
      (r ≡ s) × (a ≡ b)
  planes_unique {a} {b} {r} {s} p q =
      let next : r.next ≡ s.next = omega (arith, no_further p q, no_further q p) in
      let bytes : r.bytes ≡ s.bytes = bytes_of p ∙ ap (λ n. length (planes S cube z n)) next ∙ sym (bytes_of q) in
      let front : take r.bytes a ≡ take s.bytes b = p.lists ∙ ap (planes S cube z) next ∙ sym q.lists in
      let rest : drop r.bytes a ≡ drop s.bytes b = p.keeps ∙ ap (λ n. drop n text) bytes ∙ sym q.keeps in (
        ap₂ (λ n k. record { next = n; bytes = k }) next bytes,
        sym (take-append-drop r.bytes a) ∙ ap₂ ◌++◌ front rest ∙ take-append-drop s.bytes b,
      )
