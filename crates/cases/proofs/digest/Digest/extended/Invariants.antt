-- `extended` meets its contract: the digest is that of the bytes that were passed, and leaves room for one byte more.
use Rattle.std.proofs.Common.{◌≡◌, ◌<◌, take}
use Rattle.cases.specs.Bytes.{with_bytes}
use Rattle.cases.proofs.digest.Digest.extended.Given as goal

abbrev pub invariant-loop-byte : goal.invariant-loop-byte
invariant-loop-byte l = (l.digest.marked < 100000000) × (l.digest.first < 99999989) × (l.digest.second < 99999959) ×
    (l.digest ≡ with_bytes l.initial.digest (take l.byte-index l.bytes))
