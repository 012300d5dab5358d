-- `start_volume` meets its contract: the four faces, started along v.
use mathlib.Core.Path.{◌≡◌, ◌∙◌, ap}
use mathlib.Core.List.{List}
use Prim.Native.Nat.{ℕ, ◌+◌, ◌*◌, ◌<◌}
use native.Mathlib.Omega.{arith}
use lib.IntN.{ℤ, pos}
use Rattle.cubic.proofs.Fits.{read}
use Rattle.surface.specs.Surface.{Surface, surface_of}
use Rattle.surface.specs.Volume.{Volume, volume_of, start_volume, StartsVolume}
use Rattle.surface.proofs.Slices.{volume_start_of}
use Rattle.scan.proofs.Natural.{answer_read}
use Rattle.rows.specs.Face.{doubled_face}
use Rattle.solid.specs.Machine.{InLimits, face_along, doubled_along}
use Rattle.solid.proofs.Along.{face_is, faces_start}
use Rattle.solid.proofs.start.start_volume.Goals as goal

-- With the count and the four faces as the code holds them.
module _ {points : List ℕ} {n m l : ℕ} (q : InLimits points n m l) {a : ℕ} (h : a < 3) {k : ℤ} {f0 f1 f2 f3 : Surface} (f : k ≡ pos l)
    (e0 : f0 ≡ surface_of (doubled_face points n m 48 12 a) 0) (e1 : f1 ≡ surface_of (doubled_face points n m 48 12 (3 + a)) 0)
    (e2 : f2 ≡ surface_of (doubled_face points n m 48 12 (6 + a)) 0)
    (e3 : f3 ≡ surface_of (doubled_face points n m 48 12 (9 + a)) 0) where
  face : {r : Surface} (p : ℕ) {at : ℕ} → r ≡ surface_of (doubled_face points n m 48 12 at) 0 → at ≡ 3 * p + a →
      r ≡ surface_of (face_along points n m a p) 0
  face p e z = e ∙ ap (λ P. surface_of P 0) (face_is points n m a p z)

  faces : StartsVolume k f0 f1 f2 f3
  faces =
      rw (f, face 0 e0 (omega arith), face 1 e1 (omega arith), face 2 e2 (omega arith), face 3 e3 (omega arith)) (faces_start q h)

  started : {r : Volume} → r ≡ start_volume k f0 f1 f2 f3 → r ≡ volume_of (doubled_along points n m l a) 0
  started e =
      rw (f, face 0 e0 (omega arith), face 1 e1 (omega arith), face 2 e2 (omega arith), face 3 e3 (omega arith)) at e ∙
      volume_start_of (pos l) (face_along points n m a 0) (face_along points n m a 1) (face_along points n m a 2) (face_along points n m a 3)

-- The count, as it is read back.
count_read : {points : List ℕ} {n m l : ℕ} → InLimits points n m l → {k : ℤ} → k ≡ pos l → read k ≡ pos l
count_read q e = answer_read e (omega (arith, q.l_most))

pub start-requires : goal.start-requires
start-requires c =
    faces c.requires.in_limits c.requires.a_bound (count_read c.requires.in_limits c.from.ensures)
    c.start_surface-f0.ensures c.start_surface-f1.ensures
    c.start_surface-f2.ensures c.start_surface-f3.ensures

pub returns : goal.returns
returns c =
    started c.requires.in_limits c.requires.a_bound (count_read c.requires.in_limits c.from.ensures)
    c.start_surface-f0.ensures c.start_surface-f1.ensures
    c.start_surface-f2.ensures c.start_surface-f3.ensures c.start.ensures
