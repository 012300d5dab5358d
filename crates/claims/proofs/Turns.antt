-- The argument about a list of calls, once, for calls of any kind: what each call keeps or marks, the list keeps or
-- marks.
use mathlib.Core.Path.{◌≡◌, refl, sym, ◌∙◌, subst}
use mathlib.Core.Logic.{◌⊎◌, inl, inr, ⊎_elim}
use mathlib.Core.List.{List, [], ◌∷◌, ◌++◌, Memᴰ}
use Prim.Native.Nat.{ℕ, ◌<◌}
use lib.ListN.{length, get_or}
use Rattle.drawing.specs.Drawing.{in_turn}

-- What a kind of call supplies: how it draws, which calls are accepted into a grid of some length, and what it says
-- of a byte that it marks. A drawing keeps the grid's length, and at each place it keeps the byte, or the call is
-- accepted and marks it.
pub record Supplies (C : Type 0) : Type 1 where
  pub draw : C → List ℕ → List ℕ
  pub Good : ℕ → C → Type 0
  pub Marks : C → (place byte : ℕ) → Type 0
  pub keeps_length : (c : C) (grid : List ℕ) → length (draw c grid) ≡ length grid
  pub keeps_or_marks : (c : C) (grid : List ℕ) (q : ℕ) → q < length grid →
      (get_or (draw c grid) q 0 ≡ get_or grid q 0) ⊎ (Good (length grid) c × Marks c q (get_or (draw c grid) q 0))

module _ {C : Type 0} (s : Supplies C) where
  -- A list of calls keeps the grid's length.
  pub turns_length : (cs : List C) (grid : List ℕ) → length (in_turn s.draw cs grid) ≡ length grid
  unfolding in_turn
  turns_length [] grid = refl
  turns_length (c ∷ cs) grid = turns_length cs (s.draw c grid) ∙ s.keeps_length c grid

  -- A call of the list that is accepted and marks the byte.
  pub record MarkedBy (cs : List C) (len q byte : ℕ) : Type 0 where
    pub by : C
    pub of_list : Memᴰ by cs
    pub good : s.Good len by
    pub marks : s.Marks by q byte

  -- After a list of calls each byte is what it was, or the mark of an accepted call of the list.
  pub turns_keep_or_mark : (cs : List C) (grid : List ℕ) (q : ℕ) → q < length grid →
      (get_or (in_turn s.draw cs grid) q 0 ≡ get_or grid q 0) ⊎
      MarkedBy cs (length grid) q (get_or (in_turn s.draw cs grid) q 0)
  unfolding in_turn
  turns_keep_or_mark [] grid q h = inl refl
  turns_keep_or_mark (c ∷ cs) grid q h =
      ⊎_elim
      (λ kept. ⊎_elim (λ before. inl (kept ∙ before))
      (λ w. inr (record {
        by = c;
        of_list = Memᴰ.head refl;
        good = w.0;
        marks = subst (s.Marks c q) (sym kept) w.1;
      }))
      (s.keeps_or_marks c grid q h))
      (λ m. inr (record {
        by = m.by;
        of_list = Memᴰ.tail m.of_list;
        good = subst (λ len. s.Good len m.by) (s.keeps_length c grid) m.good;
        marks = m.marks;
      }))
      (turns_keep_or_mark cs (s.draw c grid) q (rw (s.keeps_length c grid) h))

  -- The last call of a list draws into what those before it left.
  pub turns_last : (cs : List C) (c : C) (grid : List ℕ) →
      in_turn s.draw (cs ++ c ∷ []) grid ≡ s.draw c (in_turn s.draw cs grid)
  unfolding in_turn
  turns_last [] c grid = refl
  turns_last (b ∷ cs) c grid = turns_last cs c (s.draw b grid)
