-- `list_row` meets its contract: after i steps the list begins with the bytes of the first i + 1 walkers' cells.
use mathlib.Core.Path.{◌≡◌, refl, ap, ◌∙◌}
use mathlib.Core.List.{List, ◌++◌, map, map-append, append_assoc}
use Prim.Native.Nat.{ℕ, suc, ◌≤◌, ◌<◌, ◌-◌, ◌+◌, ◌*◌}
use native.Mathlib.Omega.{arith}
use lib.IntN.{ℤ}
use lib.ListN.{length, drop, length-map}
use lib.Seq.{sets, sets-eq, length-sets}
use Rattle.drawing.specs.Drawing.{bytes}
use Rattle.drawing.proofs.Listed.{length_bytes}
use Rattle.scan.specs.Walker.{Walker, Strides, step_all, after, cell_of_walker, coordinates, walkers, OnList}
use Rattle.scan.proofs.Written.{bytes_more, written_after}
use Rattle.scan.proofs.Row.{AfterSteps, no_steps, step_more, length_walkers}
use Rattle.scan.proofs.list.list_row.Given as goal

-- The row so far, where list₀ has the bytes of its first walker.
pub record SoFar (scale : ℤ) (h : Strides) (w₀ : Walker) (list₀ : List ℕ) (n i at : ℕ) (w : Walker) (list : List ℕ) :
    Type 0 where
  pub steps : AfterSteps scale h w₀ n i w
  pub room : OnList n scale h w₀ (length list)
  pub place : at ≡ 3 * i
  pub cells : (g : List ℕ) → list₀ ≡ sets g 0 (coordinates (cell_of_walker w₀)) →
      list ≡ bytes (map cell_of_walker (walkers i scale h w₀)) ++ drop (3 * suc i) g
  pub size : length list ≡ length list₀

-- The number of bytes so far.
pub length_so_far : (i : ℕ) (scale : ℤ) (h : Strides) (w : Walker) →
    length (bytes (map cell_of_walker (walkers i scale h w))) ≡ 3 * suc i
length_so_far i scale h w = rw (length_bytes, length-map, length_walkers)

-- Bytes that are written leave the length.
pub same_length_before : (vs g : List ℕ) {l : List ℕ} → l ≡ sets g 0 vs → length l ≡ length g
same_length_before vs g e = ap length e ∙ length-sets g 0 vs

module _ (scale : ℤ) (h : Strides) (w₀ : Walker) where
  -- With the first cell.
  pub first : {n : ℕ} (g : List ℕ) → OnList n scale h w₀ (length g) →
      let l = sets g 0 (coordinates (cell_of_walker w₀)) in SoFar scale h w₀ l n 0 0 w₀ l
  unfolding walkers bytes
  first {n} g r = record {
    steps = no_steps scale h w₀ n;
    room = rw (length-sets g 0 (coordinates (cell_of_walker w₀))) r;
    place = refl;
    cells = λ g' e.
        let cs : List ℕ = coordinates (cell_of_walker w₀) in
        e ∙ sets-eq cs g' 0 (omega (arith, r.long, length-sets g 0 cs, same_length_before cs g' e));
    size = refl;
  }

  -- With the next step's cell.
  pub next : {n i at : ℕ} {w w' : Walker} {list₀ list : List ℕ} → SoFar scale h w₀ list₀ n i at w list → i < n →
      w' ≡ step_all scale h w →
      SoFar scale h w₀ list₀ n (suc i) (at + 3) w' (sets list (at + 3) (coordinates (cell_of_walker w')))
  unfolding walkers
  next {n} {i} {at} {w} {w'} {list₀} {list} s l e =
      let more = step_more s.steps l e in
      record {
        steps = more;
        room = rw (length-sets list (at + 3) (coordinates (cell_of_walker w'))) s.room;
        place = omega (arith, s.place);
        cells = λ g f.
            let k : ℕ = 3 * suc i in
            let front : List ℕ = bytes (map cell_of_walker (walkers i scale h w₀)) in
            let here : at + 3 ≡ k = omega (arith, s.place) in
            let end : k + 3 ≡ 3 * suc (suc i) = omega arith in
            let fits : k + 3 ≤ length g = omega (arith, s.room.long, s.size, same_length_before (coordinates (cell_of_walker w₀)) g f) in
            rw (s.cells g f, here, more.walker, map-append, bytes_more, append_assoc, ← end)
            (written_after front (coordinates (cell_of_walker (after scale h w₀ (suc i)))) g k (length_so_far i scale h w₀) fits);
        size = length-sets list (at + 3) (coordinates (cell_of_walker w')) ∙ s.size;
      }

abbrev pub invariant-loop : goal.invariant-loop
invariant-loop l = SoFar l.scale l.h l.initial.w l.initial.list l.n l.counter l.at l.w l.list

abbrev pub decreases-loop : goal.decreases-loop
decreases-loop l = l.n - l.counter
