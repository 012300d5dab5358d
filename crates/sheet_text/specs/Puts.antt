-- What the inner functions do: bytes are written from the front of a text, and their number is answered.
use Rattle.std.specs.Prelude.{◌≡◌, List, ℕ, length}
use Rattle.sheet.specs.Part.{over}

-- The bytes stand at the front of the text, all else is as it was, and `count` is their number.
pub record Puts (bytes text text_after : List ℕ) (count : ℕ) : Type 0 where
  pub holds : text_after ≡ over bytes text
  pub counts : count ≡ length bytes
