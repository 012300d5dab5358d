-- Writes one after another: what is written from where the first ends follows its bytes.
use mathlib.Core.Path.{◌≡◌, refl, sym, ◌∙◌, ap}
use mathlib.Core.List.{List, [], ◌++◌, append_assoc, append-nil}
use Prim.Native.Nat.{ℕ, ◌+◌, ◌-◌, ◌≤◌}
use native.Mathlib.Omega.{arith}
use lib.ListN.{length, take, drop, length-append, length-drop}
use lib.Seq.{take_all, take_at, drop_at, drop-drop}
use Rattle.std.proofs.lemmas.List.{drop_all}
use borrow.Rule.Slice.PartMut.{mid_of, put_mid}
use Rattle.sheet_text.specs.Puts.{Puts}

-- Nothing.
pub puts_none : (t : List ℕ) → Puts [] t t 0
puts_none t = record { holds = refl; counts = refl }

module _ {a t u : List ℕ} {n : ℕ} (p : Puts a t u n) where
  -- The bytes, and what stands after them.
  pub puts_take : take n u ≡ a
  puts_take = rw p.holds (take_at a _ n (sym p.counts))

  pub puts_drop : drop n u ≡ drop n t
  puts_drop = rw p.holds (drop_at a _ n (sym p.counts) ∙ ap (λ k. drop k t) (sym p.counts))

  -- Bytes after bytes.
  pub puts_append : {b w : List ℕ} {m : ℕ} → Puts b (drop n u) w m → Puts (a ++ b) t (take n u ++ w) (n + m)
  puts_append {b} {w} {m} q = record {
    holds =
        rw (puts_take, q.holds, puts_drop, p.counts, length-append)
        (ap (λ r. a ++ (b ++ r)) (drop-drop (length b) (length a) t) ∙ sym (append_assoc a b _));
    counts = rw (p.counts, q.counts, length-append);
  }

  -- A part of the text after them.
  pub puts_part : (b : List ℕ) (k : ℕ) → length b ≡ k → Puts (a ++ b) t (put_mid n k u b) (n + k)
  puts_part b k size = puts_append (record { holds = rw size; counts = rw size })

  -- All of the text after them.
  pub puts_rest : {b w : List ℕ} {m k : ℕ} → k ≡ length u - n → Puts b (mid_of n k u) w m →
      Puts (a ++ b) t (put_mid n k u w) (n + m)
  puts_rest {b} {w} {m} {k} is q =
      let size : length (drop n u) ≤ k = rw length-drop (omega (arith, is)) in
      rw (drop_all k (drop n u) size, append-nil) (puts_append (rw (take_all k (drop n u) size) at q))

  -- The text keeps its length.
  pub puts_length : length a ≤ length t → length u ≡ length t
  puts_length fits = rw (p.holds, length-append, length-drop) (omega arith)

  -- They are all of it.
  pub puts_whole : length t ≡ n → u ≡ a
  puts_whole size = rw (p.holds, drop_all (length a) t (omega (arith, p.counts, size)), append-nil)
