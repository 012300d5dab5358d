-- Two lists that hold the same bytes from a place on.
use Rattle.std.specs.Prelude.{◌≡◌, List, ℕ, ◌≤◌, ◌<◌, length, get_or}

-- They are as long as one another, and each byte from that place on is the other's. From 0 on, that is every byte.
pub record SameFrom (from : ℕ) (one other : List ℕ) : Type 0 where
  pub long : length one ≡ length other
  pub bytes : (k : ℕ) → from ≤ k → k < length one → get_or one k 0 ≡ get_or other k 0
