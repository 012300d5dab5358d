-- What a C caller is answered: one signed number, a count or minus the refusal's number.
use Rattle.std.specs.Prelude.{Bool, not, List, ℕ, eqb, ℤ, pos, ◌-ℤ◌, length}
use Rattle.decide.specs.Refusal.{Rule, Verdict, Outcome, gives, refuses, outcome, first_that, or_else}

-- Minus the number.
abbrev pub minus : (number : ℕ) → ℤ
minus k = pos 0 -ℤ pos k

-- A count, or minus the number that refuses the call.
abbrev pub signed_of : Outcome ℕ → ℤ
signed_of (gives n) = pos n
signed_of (refuses k) = minus k

-- The same by the call's verdict.
abbrev pub signed : Verdict → (count : ℕ) → ℤ
signed v n = signed_of (outcome v n)

-- A record or an out-buffer of another length than it should have.
abbrev pub other_length : (size : ℕ) (bytes : List ℕ) → Bool
other_length size bytes = not (eqb (length bytes) size)

-- The numbers of this interface alone come before the call's.
abbrev pub own_first : (own : List Rule) → Verdict → Verdict
own_first own v = or_else (first_that own) v
