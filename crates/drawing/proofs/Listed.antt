-- One listing in words: a refused one leaves the list; an accepted one of a curve has x y z of sample i's cell at
-- bytes 3 × i to 3 × i + 2, leaves the rest, and keeps the list's length.
use mathlib.Core.Path.{◌≡◌, refl, ◌∙◌, ap}
use mathlib.Core.Logic.{⊎_elim}
use mathlib.Core.List.{List, [], ◌∷◌, ◌++◌}
use Prim.Native.Nat.{ℕ, zero, suc, ◌+◌, ◌*◌, ◌-◌, ◌≤◌, ◌<◌}
use native.Mathlib.Omega.{arith}
use lib.ListN.{length, get_or, drop, length-append, length-drop, length-map, get_or-append, get_or-map}
use lib.Dec.{lit<}
use lib.Seq.{get_or-append-add, get_or-drop, get_or_at}
use Rattle.decide.proofs.Some.{below_or_last}
use Rattle.decide.specs.Refusal.{accepted, refused}
use Rattle.decide.proofs.FirstThat.{by_verdict}
use Rattle.cube.specs.Cube.{Axis, x_axis, y_axis, z_axis, Cell}
use Rattle.drawing.specs.declared.Choice.{Choice}
use Rattle.drawing.specs.Object.{Object, curve, offset, cell_of}
use Rattle.drawing.specs.Refusals.{list_verdict, sample_count}
use Rattle.drawing.specs.Drawing.{row, rows, samples, bytes, cells, Listing, listing_of, listed_by, listed}
use Rattle.drawing.proofs.Samples.{length_row, samples_count}
use Rattle.drawing.proofs.Accepted.{list_accepted}

-- Three bytes a cell.
pub length_bytes : (cs : List Cell) → length (bytes cs) ≡ 3 * length cs
unfolding bytes
length_bytes [] = refl
length_bytes (c ∷ cs) = rw (length_bytes cs) (omega arith)

-- The bytes of the first cell.
front_bytes : (c : Cell) (cs : List Cell) (a : Axis) → get_or (bytes (c ∷ cs)) (3 * 0 + offset a) 0 ≡ c a
unfolding bytes offset
front_bytes c cs x_axis = refl
front_bytes c cs y_axis = refl
front_bytes c cs z_axis = refl

-- The bytes of cell k.
bytes_at : (cs : List Cell) (d : Cell) (k : ℕ) (a : Axis) → k < length cs →
    get_or (bytes cs) (3 * k + offset a) 0 ≡ get_or cs k d a
unfolding bytes
bytes_at [] d k a h = absurd (omega arith)
bytes_at (c ∷ cs) d zero a h = front_bytes c cs a
bytes_at (c ∷ cs) d (suc k) a h =
    let e : 3 * suc k + offset a ≡ suc (suc (suc (3 * k + offset a))) = omega arith in
    rw e (bytes_at cs d k a (omega arith))

-- Sample k of a row.
row_at : (n : ℕ) (is : List ℕ) (d : List ℕ) (k : ℕ) → k ≤ n → get_or (row n is) k d ≡ k ∷ is
unfolding row
row_at zero is d k h = let e : k ≡ zero = omega arith in rw e
row_at (suc n) is d k h =
    ⊎_elim
    (λ l. get_or-append (row n is) ((suc n ∷ is) ∷ []) d k (rw (length_row n is) l) ∙ row_at n is d k (omega arith))
    (λ e. rw e (get_or_at (row n is) (suc n ∷ is) [] d (suc n) (length_row n is)))
    (below_or_last {i = k} {n = suc n} (omega arith))

-- A point has three coordinates.
pub offset_below : (a : Axis) → offset a < 3
unfolding offset
offset_below x_axis = lit< tt
offset_below y_axis = lit< tt
offset_below z_axis = lit< tt

-- The bytes of all cells: three for each sample.
length_cells : (o : Object) → length (cells o) ≡ sample_count o.counts
unfolding cells
length_cells o = length-map (samples o.counts) (cell_of o) ∙ samples_count o.counts

length_cell_bytes : (o : Object) → length (bytes (cells o)) ≡ 3 * sample_count o.counts
length_cell_bytes o = rw (length_bytes, length_cells)

-- A listing of whatever kind.
module _ (l : Listing) (list : List ℕ) where
  -- A refused one leaves the list.
  pub listed_refused : {k : ℕ} → l.verdict (length list) ≡ refused k → listed_by l list ≡ list
  unfolding listed_by
  listed_refused e = rw e

  -- An accepted one is the cells' bytes and then the rest of the list.
  pub listed_accepted : l.verdict (length list) ≡ accepted →
      listed_by l list ≡ bytes l.cells ++ drop (3 * length l.cells) list
  unfolding listed_by
  listed_accepted e = rw (e, length_bytes l.cells)

module _ (S : ℕ) (o : Object) (list : List ℕ) where
  -- Document 01's has three bytes a sample.
  pub samples_listed : list_verdict S (length list) o ≡ accepted →
      listed S o list ≡ bytes (cells o) ++ drop (3 * sample_count o.counts) list
  samples_listed e = rw (length_cells o) at (listed_accepted (listing_of S o) list e)

  -- A listing keeps the list's length.
  pub length_listed : length (listed S o list) ≡ length list
  length_listed =
      by_verdict (list_verdict S (length list) o) _
      (λ e. rw (samples_listed e, length-append, length-drop, length_cell_bytes o)
      (omega (arith, ((list_accepted S o (length list)).0 e).1)))
      (λ k e. ap length (listed_refused (listing_of S o) list e))

  -- The bytes past the last sample's keep what they held.
  pub listed_rest : (q : ℕ) → 3 * sample_count o.counts ≤ q → get_or (listed S o list) q 0 ≡ get_or list q 0
  listed_rest q h =
      by_verdict (list_verdict S (length list) o) _
      (λ e. let r : ℕ = 3 * sample_count o.counts in
      let to_end : q ≡ length (bytes (cells o)) + (q - r) = rw (length_cell_bytes o) (omega arith) in
      let back : r + (q - r) ≡ q = omega arith in
      ap (λ l. get_or l q 0) (samples_listed e) ∙
      ap (λ k. get_or (bytes (cells o) ++ drop r list) k 0) to_end ∙
      get_or-append-add (bytes (cells o)) (drop r list) (q - r) 0 ∙
      get_or-drop r list (q - r) 0 ∙
      ap (λ k. get_or list k 0) back)
      (λ k e. ap (λ l. get_or l q 0) (listed_refused (listing_of S o) list e))

-- Sample i of a curve.
curve_sample_at : (n i : ℕ) → i ≤ n → get_or (samples (n ∷ [])) i [] ≡ i ∷ []
unfolding samples rows
curve_sample_at n i h =
    get_or-append (row n []) [] [] i (rw (length_row n []) (omega arith)) ∙ row_at n [] [] i h

module _ (S n : ℕ) (points : List ℕ) (mark : ℕ) (choice : Choice) (list : List ℕ) where
  -- An accepted listing of a curve has the three bytes of sample i's cell from byte 3 × i on.
  pub listed_curve : list_verdict S (length list) (curve n points mark choice) ≡ accepted → (i : ℕ) → i ≤ n → (a : Axis) →
      get_or (listed S (curve n points mark choice) list) (3 * i + offset a) 0 ≡ cell_of (curve n points mark choice) (i ∷ []) a
  unfolding cells sample_count
  listed_curve e i h a =
      let o : Object = curve n points mark choice in
      let here : i < length (cells o) = rw length_cells (omega arith) in
      ap (λ l. get_or l (3 * i + offset a) 0) (samples_listed S o list e) ∙
      get_or-append (bytes (cells o)) _ 0 (3 * i + offset a)
      (rw length_cell_bytes (omega (arith, offset_below a))) ∙
      bytes_at (cells o) (cell_of o []) i a here ∙
      ap (λ c. c a) (get_or-map (cell_of o) (samples (n ∷ [])) i []) ∙
      ap (λ is. cell_of o is a) (curve_sample_at n i h)
