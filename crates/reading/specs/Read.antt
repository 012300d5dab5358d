-- Reading into a lent buffer: one read, what its answer says, and reads one after the other.
use Rattle.std.specs.Prelude.{ℕ, ◌+◌, ◌-◌, ◌≤◌, ◌<◌, ◌≡◌, List, length, take, Result, Ok, Err}
use Rattle.reading.specs.declared.ReadFailed.{ReadFailed}

-- What a read that is lent n bytes may answer: that it failed, or how many bytes it put there, at most n.
abbrev pub Moved : ℕ → Result ℕ (Unit {0}) → Type 0
Moved n (Ok k) = k ≤ n
Moved n (Err e) = Unit {0}

-- One read into the buffer from byte at on. It fails, or puts a number of bytes for which there is room; the bytes before
-- stay.
pub record ReadAt (before : List ℕ) (at : ℕ) (got : Result ℕ (Unit {0})) (after : List ℕ) : Type 0 where
  pub same : length after ≡ length before
  pub kept : take at after ≡ take at before
  pub moved : Moved (length before - at) got

-- What a read's answer says where so many bytes were read before: how many it put there, or that it failed after those.
abbrev pub answer_of : {error : Type 0} (got : Result ℕ error) (done : ℕ) → Result ℕ ReadFailed
answer_of (Ok count) done = Ok count
answer_of (Err e) done = Err (record { count = done })

-- Reads of some bytes each, every one from where the one before ended: how many bytes in all, and what the buffer then
-- holds.
pub data Reads (before : List ℕ) : (count : ℕ) (after : List ℕ) → Type 0 where
  none : Reads before 0 before
  more : {count got : ℕ} {held after : List ℕ} → Reads before count held → ReadAt held count (Ok got) after →
      0 < got → Reads before (count + got) after

-- Reads until the buffer is full, or until one puts no bytes, at the end of the input, or fails.
pub data Filled (before : List ℕ) : (answer : Result ℕ ReadFailed) (after : List ℕ) → Type 0 where
  full : {count : ℕ} {after : List ℕ} → Reads before count after → count ≡ length after → Filled before (Ok count) after
  ended : {count : ℕ} {held after : List ℕ} → Reads before count held → count < length held →
      ReadAt held count (Ok 0) after → Filled before (Ok count) after
  failed : {count : ℕ} {held after : List ℕ} → Reads before count held → count < length held →
      ReadAt held count (Err (tt {0})) after → Filled before (Err (record { count = count })) after

-- How many bytes were read, also where a read then failed.
abbrev pub count_of : Result ℕ ReadFailed → ℕ
count_of (Ok count) = count
count_of (Err e) = e.count

-- Bytes read into the buffer, whose length stays.
pub record ReadInto (before : List ℕ) (count : ℕ) (after : List ℕ) : Type 0 where
  pub same : length after ≡ length before
  pub within : count ≤ length before
