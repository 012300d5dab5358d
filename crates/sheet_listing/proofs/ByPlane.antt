-- A listing by whole planes: the planes so far, and one more.
use mathlib.Core.Path.{◌≡◌}
use mathlib.Core.Logic.{⊎_elim}
use mathlib.Core.List.{List, ◌++◌}
use Prim.Native.Nat.{ℕ, ◌+◌, ◌-◌, ◌*◌, ◌≤◌, ◌<◌}
use native.Mathlib.Nat.{mul-sub, mul-one, mul-pos, mul-le-mul_left}
use native.Mathlib.Omega.{arith}
use lib.Dec.{eqb}
use borrow.Rule.Slice.PartMut.{mid_of, put_mid}
use lib.ListN.{length}
use Rattle.decide.proofs.Truth.{decided, equal}
use Rattle.sheet.specs.Part.{part}
use Rattle.sheet.proofs.Parts.{part_append, length_part_at_most}
use Rattle.sheet_text.specs.Puts.{Puts}
use Rattle.sheet_listing.specs.ByPlane.{planes, Room, ListsPlanes}
use Rattle.sheet_text.proofs.Puts.{puts_take, puts_drop, puts_rest, puts_length}

-- Planes of P places, before the next and with it.
module _ (P z next : ℕ) (h : z ≤ next) where
  start_next : P * z + P * (next - z) ≡ P * next
  start_next = rw mul-sub (omega (arith, mul-le-mul_left P h))

  one_more : P * (next - z) + P ≡ P * (next + 1 - z)
  one_more = simp mul-sub (omega (arith, mul-le-mul_left P h))

module _ (S : ℕ) (cube : List ℕ) (z : ℕ) where
  -- One plane.
  one_plane : planes S cube z (z + 1) ≡ part S (S * S * z) (S * S) cube
  one_plane = let one : z + 1 - z ≡ 1 = omega arith in rw (one, mul-one)

  -- The planes so far and the next one.
  planes_next : (next : ℕ) → z < next → next < S →
      planes S cube z next ++ part S (S * S * next) (S * S) cube ≡ planes S cube z (next + 1)
  planes_next next after l =
      let before : z ≤ next = omega arith in
      let side : 0 < S = omega arith in
      let later : 0 < S * S * next = mul-pos (mul-pos side side) (omega arith) in
      rw (← one_more (S * S) z next before, ← start_next (S * S) z next before)
      (part_append S (S * S * z) (S * S * (next - z)) (S * S) cube (rw (start_next (S * S) z next before) later))

  -- The planes before the next are written.
  pub record SoFar (text after : List ℕ) (next bytes : ℕ) : Type 0 where
    pub some : z < next
    pub most : next ≤ S
    pub goes_on : (plane : ℕ) → z < plane → plane < next → Room S cube z (length text) plane
    pub fits : bytes ≤ length text
    pub size : length after ≡ length text
    pub puts : Puts (planes S cube z next) text after bytes

  -- The first.
  pub first_plane : {text after : List ℕ} {bytes : ℕ} → z < S → 21 * (S * S + 1) ≤ length text →
      Puts (part S (S * S * z) (S * S) cube) text after bytes → SoFar text after (z + 1) bytes
  first_plane {text} l room p =
      let fits : length (part S (S * S * z) (S * S) cube) ≤ length text =
      omega (arith, length_part_at_most S (S * S * z) (S * S) cube) in
      record {
        some = omega arith;
        most = omega arith;
        goes_on = λ plane after before. absurd (omega arith);
        fits = omega (arith, p.counts);
        size = puts_length p fits;
        puts = rw one_plane p;
      }

  module _ {text after : List ℕ} {next bytes : ℕ} (s : SoFar text after next bytes) where
    -- One more, where there is room.
    pub next_plane : {rest : List ℕ} {k more : ℕ} → next < S → bytes + 21 * (S * S + 1) ≤ length after →
        k ≡ length after - bytes → Puts (part S (S * S * next) (S * S) cube) (mid_of bytes k after) rest more →
        SoFar text (put_mid bytes k after rest) (next + 1) (bytes + more)
    next_plane {rest} {k} {more} l room is q =
        let here : Room S cube z (length text) next = rw (← s.puts.counts, ← s.size) room in
        let all : Puts (planes S cube z (next + 1)) text (put_mid bytes k after rest) (bytes + more) =
        rw (← planes_next next s.some l) (puts_rest s.puts is q) in
        let fits : bytes + more ≤ length text =
        omega (arith, q.counts, s.size, length_part_at_most S (S * S * next) (S * S) cube) in
        record {
          some = omega (arith, s.some);
          most = omega arith;
          goes_on = λ plane after before. goes_on here plane after before;
          fits = fits;
          size = puts_length all (omega (arith, fits, all.counts));
          puts = all;
        }
      where
        goes_on : Room S cube z (length text) next → (plane : ℕ) → z < plane → plane < next + 1 →
            Room S cube z (length text) plane
        goes_on here plane after before =
            ⊎_elim (λ t. rw ((equal plane next).0 t) here)
            (λ f. s.goes_on plane after (let n : ¬ (plane ≡ next) = λ e. f ((equal plane next).1 e) in omega arith))
            (decided (eqb plane next))

    -- None more: there is no further plane, or no room for it.
    pub no_more : (next < S → ¬ (bytes + 21 * (S * S + 1) ≤ length after)) →
        ListsPlanes S cube z text after (record { next = next; bytes = bytes })
    no_more ends = record {
      some = s.some;
      most = s.most;
      goes_on = s.goes_on;
      ends = λ l room. ends l (rw (s.puts.counts, s.size) room);
      lists = puts_take s.puts;
      keeps = puts_drop s.puts;
      fits = s.fits;
      size = s.size;
    }
