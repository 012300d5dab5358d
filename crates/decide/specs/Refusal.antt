-- Document 01, "Who can cause which refusal": a call answers the first number that applies, and no number otherwise.
use Rattle.std.specs.Prelude.{Bool, cond, List, [], ◌∷◌, ℕ, eqb}

-- A refusal number, and whether it applies.
pub record Rule : Type 0 where
  pub number : ℕ
  pub applies : Bool

abbrev pub ◌when◌ : ℕ → Bool → Rule
k when b = record { number = k; applies = b }

infix 68 ◌when◌
-- What a call is answered: no number, or the number.
pub data Verdict : Type 0 where
  accepted : Verdict
  refused : ℕ → Verdict

-- The first number of the order that applies.
unfoldable pub first_that : List Rule → Verdict
first_that [] = accepted
first_that (r ∷ rs) = cond r.applies (refused r.number) (first_that rs)

-- The order with a rule more, right after the one with a number.
unfoldable pub right_after : (k : ℕ) (new : Rule) → List Rule → List Rule
right_after k new [] = []
right_after k new (r ∷ rs) = cond (eqb r.number k) (r ∷ new ∷ rs) (r ∷ right_after k new rs)

-- The numbers of an order, as document 01 lists them.
unfoldable pub numbers : List Rule → List ℕ
numbers [] = []
numbers (r ∷ rs) = r.number ∷ numbers rs

-- What a call answers: a value where no number applies, or the number that refuses it.
pub data Outcome (A : Type 0) : Type 0 where
  gives : A → Outcome A
  refuses : ℕ → Outcome A

abbrev pub outcome : {A : Type 0} → Verdict → A → Outcome A
outcome accepted a = gives a
outcome (refused k) a = refuses k

-- The same answer by what is to be told of its value.
abbrev pub telling : {A B : Type 0} → (A → B) → Outcome A → Outcome B
telling f (gives a) = gives (f a)
telling f (refuses k) = refuses k

-- What a call leaves: the first if it is accepted, the second if it is refused.
abbrev pub leaves : {A : Type 0} → Verdict → A → A → A
leaves accepted a b = a
leaves (refused k) a b = b

-- One verdict after another: the number of the first if it has one, and else the second's.
abbrev pub or_else : Verdict → Verdict → Verdict
or_else (refused k) other = refused k
or_else accepted other = other
