-- `start_surface` meets its contract: the columns start along t, and their values and differences along u.
use mathlib.Core.Path.{◌≡◌, ◌∙◌}
use mathlib.Core.List.{List}
use Prim.Native.Nat.{ℕ, ◌+◌, ◌*◌, ◌≤◌}
use native.Mathlib.Omega.{arith}
use lib.IntN.{ℤ, pos}
use Rattle.cubic.specs.Differences.{Cubic, differences_at}
use Rattle.cubic.proofs.Fits.{read}
use Rattle.surface.specs.Surface.{Surface, surface_of, start_across, StartsAcross}
use Rattle.scan.specs.Column.{doubled_column}
use Rattle.scan.proofs.Natural.{answer_read}
use Rattle.surface.proofs.Follows.{start_of}
use Rattle.rows.specs.Face.{doubled_face, InFace}
use Rattle.rows.proofs.Face.{face_starts}
use Rattle.rows.proofs.start_surface.Goals as goal

-- With the count and the four columns as the code holds them.
module _ {points : List ℕ} {n m apart across at : ℕ} (l : InFace points n m apart across at) {k : ℤ} {c0 c1 c2 c3 : Cubic} (f : k ≡ pos m)
    (e0 : c0 ≡ differences_at (doubled_column points n apart at) 0)
    (e1 : c1 ≡ differences_at (doubled_column points n apart (across + at)) 0)
    (e2 : c2 ≡ differences_at (doubled_column points n apart (2 * across + at)) 0)
    (e3 : c3 ≡ differences_at (doubled_column points n apart (3 * across + at)) 0) where
  starts : StartsAcross k c0 c1 c2 c3
  starts = rw (f, e0, e1, e2, e3) (face_starts l)

  started : {r : Surface} → r ≡ start_across k c0 c1 c2 c3 → r ≡ surface_of (doubled_face points n m apart across at) 0
  started e = rw (f, e0, e1, e2, e3) at e ∙ start_of (pos m) _ _ _ _

-- The count, as it is read back.
steps : {k : ℤ} {m : ℕ} → k ≡ pos m → m ≤ 256 → read k ≡ pos m
steps e h = answer_read e (omega arith)

pub start-requires : goal.start-requires
start-requires c =
    starts c.requires (steps c.from.ensures c.requires.m_most)
    c.start_column-c0.ensures c.start_column-c1.ensures c.start_column-c2.ensures c.start_column-c3.ensures

pub returns : goal.returns
returns c =
    started c.requires (steps c.from.ensures c.requires.m_most)
    c.start_column-c0.ensures c.start_column-c1.ensures c.start_column-c2.ensures c.start_column-c3.ensures
    c.start.ensures
