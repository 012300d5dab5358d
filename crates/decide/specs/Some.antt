-- Tests that some index or some element passes. They compute; `proofs/Some.antt` says them with "there is" and "for
-- all".
use Rattle.std.specs.Prelude.{Bool, false, ◌||◌, List, [], ◌∷◌, ℕ, zero, suc}

-- Some index below n passes.
unfoldable pub some_below : (n : ℕ) (p : ℕ → Bool) → Bool
some_below zero p = false
some_below (suc n) p = some_below n p || p n

-- Some element of the list passes.
unfoldable pub some_of : (p : ℕ → Bool) (l : List ℕ) → Bool
some_of p [] = false
some_of p (a ∷ l) = p a || some_of p l
