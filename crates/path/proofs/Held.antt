-- What the machine holds of the next sample's remainder.
use Rattle.std.proofs.Common.{◌≡◌, ◌+◌, ◌^◌, lit<}
use Rattle.integers.proofs.Magnitude.{within_add}
use Rattle.cubic.specs.Differences.{Cubic, next_of}
use Rattle.cubic.specs.Room.{Room}
use Rattle.cubic.proofs.Fits.{Holds, read, held}

pub next_held : {c n : Cubic} → Room c → n ≡ next_of c → Holds (2 ^ 60 + 2 ^ 60) (next_of c).value (read n.value)
unfolding next_of
next_held p e = rw e (held (within_add p.value p.d1) (lit< tt))
