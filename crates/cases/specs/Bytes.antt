-- The bytes that are lent to a call, and what bytes hold as a whole.
use Rattle.std.specs.Prelude.{◌≡◌, ℕ, ◌+◌, ◌*◌, ◌%◌, ◌<◌, cond, List, [], ◌∷◌, length, ◌==◌, slice_index}
use Rattle.cases.specs.declared.digest.Digest.{Digest}

-- Byte k is first + step × k, modulo 256, and the length stays.
pub record FilledBy (first step : ℕ) (before after : List ℕ) : Type 0 where
  pub same : length after ≡ length before
  pub bytes : (k : ℕ) → k < length after → slice_index after k ≡ (first + step * k) % 256

-- The digest of no bytes after a leading number.
abbrev pub begun_by : (lead : ℕ) → Digest
begun_by lead = record { marked = 0; first = lead % 99999989; second = lead % 99999959 }

-- A digest by its remainders.
abbrev pub reduced : Digest → Digest
reduced d = record {
  marked = d.marked % 100000000;
  first = d.first % 99999989;
  second = d.second % 99999959;
}

-- The digest with one byte more: one more that is not 0, or not, and one more digit of base 256.
abbrev pub with_byte : Digest → (byte : ℕ) → Digest
with_byte d b = record {
  marked = cond (b == 0) d.marked ((d.marked + 1) % 100000000);
  first = (d.first * 256 + b) % 99999989;
  second = (d.second * 256 + b) % 99999959;
}

-- And with more bytes, in turn.
unfoldable pub with_bytes : Digest → (bytes : List ℕ) → Digest
with_bytes d [] = d
with_bytes d (b ∷ bs) = with_bytes (with_byte d b) bs
