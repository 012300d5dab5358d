-- The form of case records, and the numbers in them.
use Rattle.std.specs.Prelude.{◌≡◌, ℕ, zero, suc, ◌+◌, ◌-◌, ◌*◌, ◌%◌, ◌<◌, ◌≤◌, cond, ◌&&◌, ◌⊎◌, List, length, nat_le, slice_index, slice_index_or}

-- A hexadecimal digit, 0 to 9 or a to f.
abbrev pub IsDigit : ℕ → Type 0
IsDigit b = ((48 ≤ b) × (b ≤ 57)) ⊎ ((97 ≤ b) × (b ≤ 102))

-- Byte i between the letter and the line feed: a blank at each multiple of nine, and a digit elsewhere.
pub record Stands (b i : ℕ) : Type 0 where
  pub blank : i % 9 ≡ 0 → b ≡ 32
  pub digit : 0 < i % 9 → IsDigit b

-- A record whose bytes stand in their places and that ends with a line feed.
pub record Formed (s : List ℕ) : Type 0 where
  pub places : (i : ℕ) → 0 < i → i + 1 < length s → Stands (slice_index s i) i
  pub ends : slice_index_or s (length s - 1) 0 ≡ 10

-- The value of a hexadecimal digit, and 0 for any other byte.
abbrev pub digit_of : ℕ → ℕ
digit_of b = cond (nat_le 48 b && nat_le b 57) (b - 48) (cond (nat_le 97 b && nat_le b 102) (b - 87) 0)

-- The number whose n hexadecimal digits stand from byte at on.
unfoldable pub value_at : (s : List ℕ) (at n : ℕ) → ℕ
value_at s at zero = 0
value_at s at (suc n) = value_at s at n * 16 + digit_of (slice_index s (at + n))
