-- A line of numbers in columns, written in parts of a text, one part after another.
use mathlib.Core.Path.{◌≡◌, refl, sym, ◌∙◌}
use mathlib.Core.List.{List, [], ◌∷◌, ◌++◌, append_assoc}
use Prim.Native.Nat.{ℕ, ◌+◌, ◌≤◌, ◌<◌}
use native.Mathlib.Numerals.{add-one}
use native.Mathlib.Omega.{arith}
use borrow.Rule.Slice.PartMut.{mid_of, put_mid, same_len_mid}
use lib.ListN.{length, set, drop, length-drop}
use lib.Seq.{set_split, drop-drop, length-take-le}
use Rattle.sheet.specs.Field.{in_columns}
use Rattle.sheet.specs.Line.{in_line}
use Rattle.sheet.proofs.Numbers.{length_in_columns}
use Rattle.sheet_text.specs.Puts.{Puts}
use Rattle.sheet_text.proofs.Puts.{puts_none, puts_append, puts_part}

-- The first n bytes of all are written, and the line of the given numbers is to follow.
pub record Begun (all : List ℕ) (width : ℕ) (numbers t u : List ℕ) (n : ℕ) : Type 0 where
  pub done : List ℕ
  pub puts : Puts done t u n
  pub is : done ++ in_line width numbers ≡ all
  pub size : length u ≡ length t

-- After other bytes, or none.
pub line_after : {width : ℕ} {numbers a t u : List ℕ} {n : ℕ} → Puts a t u n → length u ≡ length t →
    Begun (a ++ in_line width numbers) width numbers t u n
line_after {a} p size = record { done = a; puts = p; is = refl; size = size }

pub line_first : {width : ℕ} {numbers t : List ℕ} → Begun (in_line width numbers) width numbers t t 0
line_first = line_after (puts_none _) refl

-- A part's length.
length_mid : (n k : ℕ) (l : List ℕ) → n + k ≤ length l → length (mid_of n k l) ≡ k
length_mid n k l h = length-take-le k (drop n l) (rw length-drop (omega arith))

module _ {all t u : List ℕ} {n width : ℕ} where
  -- The next number, in its columns.
  pub number_next : {v : ℕ} {vs ys : List ℕ} → n + width ≤ length t → ys ≡ in_columns (length (mid_of n width u)) v →
      Begun all width (v ∷ vs) t u n → Begun all width vs t (put_mid n width u ys) (n + width)
  unfolding in_line
  number_next {v} {vs} {ys} room e b =
      let part : length (mid_of n width u) ≡ width = length_mid n width u (omega (arith, b.size)) in
      let written : ys ≡ in_columns width v = rw part at e in
      let size : length (in_columns width v) ≡ width = length_in_columns width v in
      record {
        done = b.done ++ in_columns width v;
        puts = rw written (puts_part b.puts (in_columns width v) width size);
        is = append_assoc b.done (in_columns width v) (in_line width vs) ∙ b.is;
        size = same_len_mid n width u ys (rw written (size ∙ sym part)) ∙ b.size;
      }

  -- The line feed.
  pub feed_next : n < length t → Begun all width [] t u n → Puts all t (set u n 10) (n + 1)
  unfolding in_line
  feed_next room b =
      let whole : Puts (b.done ++ 10 ∷ []) t (set u n 10) (n + 1) =
      rw (set_split u n 10 (omega (arith, b.size)))
      (puts_append b.puts (record { holds = rw (drop-drop, add-one); counts = refl })) in
      rw b.is at whole
