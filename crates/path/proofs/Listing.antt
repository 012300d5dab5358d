-- One axis's leg in a list: the bytes of the cell after the move, if there is one, stand behind those of the cells so far.
use Rattle.std.proofs.Common.{◌≡◌, ℕ, ◌+◌, ◌*◌, ◌≤◌, Bool, true, false, cond, not, eqb, List, [], ◌∷◌, ◌++◌, length, drop, set, sym, refl, ap, ◌∙◌, ap₂, append_assoc, arith, lit≤, length-append, drop-set-lt}
use lib.Seq.{sets, sets-eq, length-sets}
use Rattle.cube.specs.Cube.{Axis, x_axis, y_axis, z_axis, Cell, Inside}
use Rattle.drawing.specs.Drawing.{bytes}
use Rattle.drawing.proofs.Listed.{length_bytes}
use Rattle.scan.specs.Walker.{Walker, ByteCell, cell_of_walker, coordinates}
use Rattle.scan.proofs.Written.{written_after}
use Rattle.path.specs.Path.{moved, move}
use Rattle.path.proofs.Paths.{length_move}
use Rattle.path.proofs.Stands.{Stands, stands_byte, stands_cell}
use Rattle.path.proofs.Legs.{counts_move}

-- The cells so far stand in front, and the rest of the list is as it was.
pub record Listed (list₀ : List ℕ) (cs : List Cell) (list : List ℕ) (cells : ℕ) : Type 0 where
  pub count : cells ≡ length cs
  pub front : list ≡ bytes cs ++ drop (3 * length cs) list₀
  pub size : length list ≡ length list₀

-- There is room for cells.
pub record RoomFor (list : List ℕ) (cs : List Cell) : Type 0 where
  pub few : length cs ≤ 2000
  pub long : 3 * length cs ≤ length list

pub room_before : {list : List ℕ} (bs cs : List Cell) → RoomFor list (bs ++ cs) → RoomFor list bs
room_before bs cs r =
    let e = length-append bs cs in
    record { few = omega (arith, r.few); long = omega (arith, r.long) }

-- The first cell.
module _ (c : Cell) (g : List ℕ) where
  pub rest_kept : (n : ℕ) → 3 ≤ n → drop n (sets g 0 (coordinates c)) ≡ drop n g
  rest_kept n h =
      drop-set-lt n (set (set g 0 (c x_axis)) 1 (c y_axis)) 2 (c z_axis) (omega arith) ∙
      drop-set-lt n (set g 0 (c x_axis)) 1 (c y_axis) (omega arith) ∙
      drop-set-lt n g 0 (c x_axis) (omega arith)

  pub first_listed : 3 ≤ length g → let l = sets g 0 (coordinates c) in Listed l (c ∷ []) l 1
  unfolding bytes
  first_listed h = record {
    count = refl;
    front = sets-eq (coordinates c) g 0 h ∙ ap (coordinates c ++◌) (sym (rest_kept 3 (lit≤ tt)));
    size = refl;
  }

bytes_append : (bs cs : List Cell) → bytes (bs ++ cs) ≡ bytes bs ++ bytes cs
unfolding bytes
bytes_append [] cs = refl
bytes_append (b ∷ bs) cs = ap (coordinates b ++◌) (bytes_append bs cs)

-- Cells more.
cells_more : (bs cs : List Cell) (list : List ℕ) → 3 * length (bs ++ cs) ≤ length list →
    sets (bytes bs ++ drop (3 * length bs) list) (3 * length bs) (bytes cs) ≡ bytes (bs ++ cs) ++ drop (3 * length (bs ++ cs)) list
cells_more bs cs list h =
    let n = length-append bs cs in
    let m = length_bytes cs in
    let e : 3 * length bs + length (bytes cs) ≡ 3 * length (bs ++ cs) = omega arith in
    written_after (bytes bs) (bytes cs) list (3 * length bs) (length_bytes bs) (rw e h) ∙
    sym (append_assoc (bytes bs) (bytes cs) _) ∙ ap₂ (λ p k. p ++ drop k list) (sym (bytes_append bs cs)) e

-- What is written is the move's cell.
written_bytes : (a : Axis) (from to : Cell) {t : Bool} {p : Cell} → t ≡ not (eqb (from a) (to a)) → p ≡ moved a from to →
    cond t (coordinates p) [] ≡ bytes (move a from to)
unfolding move bytes
written_bytes a from to e q = rw (e, q) (by_test (eqb (from a) (to a)))
  where
    by_test : (t : Bool) → cond (not t) (coordinates (moved a from to)) [] ≡ bytes (cond t [] (moved a from to ∷ []))
    by_test true = refl
    by_test false = refl

-- What `list_moved` asks for, and what it says then.
abbrev pub Asks : Bool → Walker → List ℕ → ℕ → Type 0
Asks t w list cells = ByteCell w × ((cells ≤ 2000) × (3 * (cells + cond t 1 0) ≤ length list))

abbrev pub Says : Bool → Walker → List ℕ → ℕ → List ℕ → ℕ → Type 0
Says t w list cells listNow cellsNow =
    (cellsNow ≡ cells + cond t 1 0) × (listNow ≡ sets list (3 * cells) (cond t (coordinates (cell_of_walker w)) []))

-- One axis's leg, where the walker stands after the move and b tells whether there is one.
module _ {S : ℕ} (a : Axis) (from to : Cell) {w : Walker} (most : S ≤ 64) (inside : Inside S (moved a from to))
    (t : Stands (λ a. 1) (moved a from to) w) {b : Bool} (tells : b ≡ not (eqb (from a) (to a))) where
  module _ {list₀ : List ℕ} {cs : List Cell} {list : List ℕ} {cells : ℕ} (l : Listed list₀ cs list cells)
      (room : RoomFor list₀ (cs ++ move a from to)) where
    pub leg_asks : Asks b w list cells
    leg_asks =
        let n = length-append cs (move a from to) in
        let m = length_move a from to in (
          stands_byte most inside t,
          (omega (arith, l.count, room.few), rw (counts_move a from to tells) (omega (arith, l.count, l.size, room.long))),
        )

    pub leg_listed : {listNow : List ℕ} {cellsNow : ℕ} → Says b w list cells listNow cellsNow →
        Listed list₀ (cs ++ move a from to) listNow cellsNow
    leg_listed says = record {
      count =
          says.0 ∙ ap₂ (λ k j. k + j) l.count (counts_move a from to tells ∙ sym (length_move a from to)) ∙
          sym (length-append cs (move a from to));
      front =
          says.1 ∙
          rw (l.front, l.count, written_bytes a from to tells (stands_cell most inside t))
          (cells_more cs (move a from to) list₀ room.long);
      size = ap length says.1 ∙ rw length-sets l.size;
    }
