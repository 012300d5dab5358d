-- The cubic through four coordinates, within its limits: it may start, and goes on from sample 0 to sample n.
use Prim.Native.Nat.{ℕ, ◌+◌, ◌*◌, ◌≤◌}
use mathlib.Core.List.{List}
use native.Mathlib.Omega.{arith}
use lib.IntN.{ℤ, pos}
use lib.ListN.{get_or}
use Rattle.cubic.specs.Blend.{twice}
use Rattle.cubic.specs.Differences.{differences_at}
use Rattle.cubic.specs.Room.{Each, Startable, Room}
use Rattle.cubic.proofs.Levels.{each_doubled, curve_start, curve_room}
use Rattle.scan.specs.Column.{doubled_column, doubled_through, InColumn, AtBytes}

module _ {points : List ℕ} {n b0 b1 b2 b3 : ℕ} (l : AtBytes points n b0 b1 b2 b3) where
  abbrev q : ℕ → ℤ
  q = twice (λ b. get_or points b 0)

  controls : Each 126 (q b0) (q b1) (q b2) (q b3)
  controls =
      let t = l.there in
      each_doubled
      (l.coordinates b0 t.0) (l.coordinates b1 t.1) (l.coordinates b2 t.2) (l.coordinates b3 t.3)

  pub bytes_start : Startable (pos n) (q b0) (q b1) (q b2) (q b3)
  bytes_start = curve_start l.count controls

  pub bytes_room : (i : ℕ) → i ≤ n → Room (differences_at (doubled_through points n b0 b1 b2 b3) i)
  bytes_room = curve_room l.count controls

-- The same where they stand at equal distances.
module _ {points : List ℕ} {n apart at : ℕ} (l : InColumn points n apart at) where
  abbrev at_bytes : AtBytes points n at (apart + at) (2 * apart + at) (3 * apart + at)
  at_bytes =
      let there = l.there in
      record { count = l.count; there = (omega arith, omega arith, omega arith, omega arith); coordinates = l.coordinates }

  pub column_room : (i : ℕ) → i ≤ n → Room (differences_at (doubled_column points n apart at) i)
  column_room = bytes_room at_bytes
