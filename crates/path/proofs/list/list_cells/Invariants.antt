-- `list_cells` meets its contract: after i steps the walker stands at sample i, and the path up to there is listed.
use Rattle.std.proofs.Common.{◌≡◌, ℕ, suc, ◌+◌, ◌-◌, ◌*◌, ◌<◌, ◌≤◌, Bool, List, [], ◌++◌, length, drop, ℤ, pos, sym, refl, ap, ◌∙◌, subst, append_assoc, arith, lit<, length-append}
use lib.Seq.{sets, length-sets}
use Rattle.cube.specs.Cube.{Axis, x_axis, y_axis, z_axis, Cell}
use Rattle.drawing.specs.Object.{offset}
use Rattle.drawing.specs.Refusals.{Drawable}
use Rattle.drawing.specs.Drawing.{bytes, cells}
use Rattle.cubic.specs.declared.axis.Axis as machine
use Rattle.cubic.specs.Axis.{step_of}
use Rattle.cubic.specs.Room.{Steps}
use Rattle.cubic.proofs.Fits.{read}
use Rattle.scan.specs.Walker.{Walker, axis_of, stride_of, list_strides, cell_of_walker, coordinates, ByteCell}
use Rattle.scan.proofs.Samples.{At, along, list_stride_is}
use Rattle.curve.specs.declared.Curve.{Curve}
use Rattle.curve.specs.Curve.{curve_of}
use Rattle.curve.specs.Machine.{doubled_along}
use Rattle.path.specs.Path.{moved, move, moves, path, path_length}
use Rattle.path.specs.Step.{moves_next, Moving}
use Rattle.path.proofs.OfCurve as curves
use Rattle.path.proofs.Stands.{stands_byte, stands_cell}
use Rattle.path.proofs.Steps.{cell, N, Setting, in_list, AtSample, inside, stands, room, may_move, tells, stepped}
use Rattle.path.proofs.Steps.{inside_x, inside_y, inside_z, at_x, at_y, at_z, tells_x, tells_y, tells_z, at_next_sample}
use Rattle.path.proofs.Listing.{Listed, RoomFor, room_before, rest_kept, first_listed, Asks, Says, leg_asks, leg_listed}
use Rattle.path.proofs.list.list_cells.Given as goal

-- The cells of samples 0 to i.
abbrev pub cells_to : Curve → ℕ → List Cell
cells_to c = curves.cells_to c.steps c.points c.mark c.choice

-- The path so far, where list₀ has the bytes of its first cell.
pub record SoFar (c : Curve) (list₀ : List ℕ) (i : ℕ) (w : Walker) (list : List ℕ) (cells : ℕ) : Type 0 where
  pub within : i ≤ c.steps
  pub at : At (curve_of c) list_strides (along []) (λ a. doubled_along c (offset a)) i w
  pub room : 3 * path_length (curve_of c) ≤ length list₀
  pub listed : Listed list₀ (path (cells_to c i)) list cells

module _ {S : ℕ} (c : Curve) (twelve : length c.points ≡ 12) (d : Drawable S (curve_of c)) where
  abbrev pub g : Setting S c
  g = in_list c twelve d

  -- There is room for the path up to sample i.
  pub room_to : {list₀ : List ℕ} (i : ℕ) → i ≤ c.steps → 3 * path_length (curve_of c) ≤ length list₀ →
      RoomFor list₀ (path (cells_to c i))
  unfolding path_length
  room_to i l h =
      let r = curves.path_from c.steps c.points c.mark c.choice i l in
      let e : path_length (curve_of c) ≡ length (path (cells_to c i)) + length r.0 =
      ap length r.1 ∙ length-append (path (cells_to c i)) r.0 in
      let most = curves.path_at_most c.steps c.points c.mark c.choice in
      record { few = omega (arith, e, most, d.count_most 0 (lit< tt)); long = omega (arith, e, h) }

  -- Sample 0.
  pub begins : {w : Walker} {len : ℕ} → AtSample g 0 w → 3 * path_length (curve_of c) ≤ len → ByteCell w × (3 ≤ len)
  begins t h =
      let size = curves.path_length_lem c.steps c.points c.mark c.choice in
      (stands_byte d.side_most (inside g 0 (omega arith)) (stands g (omega arith) t), omega (arith, size, h))

  pub begun : (list : List ℕ) {w : Walker} → AtSample g 0 w → 3 * path_length (curve_of c) ≤ length list →
      let l = sets list 0 (coordinates (cell_of_walker w)) in SoFar c l 0 w l 1
  begun list {w} t h = record {
    within = omega arith;
    at = t;
    room = rw length-sets h;
    listed =
        rw (
          curves.path_first c.steps c.points c.mark c.choice,
          stands_cell d.side_most (inside g 0 (omega arith)) (stands g (omega arith) t),
        ) (first_listed (cell c 0) list (begins t h).1);
  }

  -- What a call asks for, and what it says, with the scale that the code holds.
  module _ {scale : ℤ} (n-is : scale ≡ pos (c.steps * c.steps * c.steps)) where
    step_is : (a : Axis) (m : machine.Axis) {r : machine.Axis} → r ≡ step_of (read scale) (read (stride_of list_strides a)) m →
        r ≡ step_of (N c) (pos 1) m
    step_is a m e = rw list_stride_is at (stepped g n-is refl a m e)

    tells_move : (m : machine.Axis) {t : Bool} → t ≡ moves_next (read scale) m → t ≡ moves_next (N c) m
    tells_move m e = tells g {h = list_strides} n-is refl m e

    module _ {i : ℕ} {w : Walker} {list₀ list : List ℕ} {cells : ℕ} (s : SoFar c list₀ i w list cells) where
      pub may_ask : (a : Axis) → Moving (read scale) (axis_of w a)
      may_ask a = may_move g {h = list_strides} n-is refl a s.within s.at

      pub may_step : (a : Axis) → Steps (read scale) (read (stride_of list_strides a)) (axis_of w a)
      may_step a = room g n-is refl a s.within s.at

  -- One step more, axis by axis.
  module _ {i : ℕ} {w : Walker} {list₀ list : List ℕ} {cells : ℕ} (s : SoFar c list₀ i w list cells) (l : i < c.steps) where
    abbrev from : Cell
    from = cell c i

    abbrev to : Cell
    to = cell c (suc i)

    abbrev after_x : Cell
    after_x = moved x_axis from to

    abbrev after_y : Cell
    after_y = moved y_axis after_x to

    abbrev with_x : List Cell
    with_x = path (cells_to c i) ++ move x_axis from to

    abbrev with_y : List Cell
    with_y = with_x ++ move y_axis after_x to

    abbrev with_z : List Cell
    with_z = with_y ++ move z_axis after_y to

    -- All three moves.
    all : path (cells_to c (suc i)) ≡ with_z
    unfolding moves
    all =
        curves.path_next c.steps c.points c.mark c.choice i ∙
        sym (append_assoc (path (cells_to c i)) (move x_axis from to ++ move y_axis after_x to) (move z_axis after_y to)) ∙
        ap (◌++ move z_axis after_y to) (sym (append_assoc (path (cells_to c i)) (move x_axis from to) (move y_axis after_x to)))

    room_z : RoomFor list₀ with_z
    room_z = subst (RoomFor list₀) all (room_to (suc i) l s.room)

    room_y : RoomFor list₀ with_y
    room_y = room_before with_y (move z_axis after_y to) room_z

    room_x : RoomFor list₀ with_x
    room_x = room_before with_x (move y_axis after_x to) room_y

    -- The three legs.
    module _ {scale : ℤ} (n-is : scale ≡ pos (c.steps * c.steps * c.steps)) where
      module _ {x : machine.Axis} {tx : Bool} (sx : x ≡ step_of (read scale) (read (stride_of list_strides x_axis)) w.x)
          (ax : tx ≡ moves_next (read scale) w.x) where
        ex : x ≡ step_of (N c) (pos 1) w.x
        ex = step_is n-is x_axis w.x sx

        mx : tx ≡ moves_next (N c) w.x
        mx = tells_move n-is w.x ax

        abbrev walker_x : Walker
        walker_x = record { x = x; y = w.y; z = w.z }

        pub asks_x : Asks tx walker_x list cells
        asks_x =
            leg_asks x_axis from to d.side_most (inside_x g l s.at) (at_x g l s.at ex) (tells_x g l s.at ex mx) s.listed room_x

        module _ {listX : List ℕ} {cellsX : ℕ} (saysX : Says tx walker_x list cells listX cellsX) where
          listed_x : Listed list₀ with_x listX cellsX
          listed_x =
              leg_listed x_axis from to d.side_most (inside_x g l s.at) (at_x g l s.at ex) (tells_x g l s.at ex mx) s.listed
              room_x saysX

          module _ {y : machine.Axis} {ty : Bool} (sy : y ≡ step_of (read scale) (read (stride_of list_strides y_axis)) w.y)
              (ay : ty ≡ moves_next (read scale) w.y) where
            ey : y ≡ step_of (N c) (pos 1) w.y
            ey = step_is n-is y_axis w.y sy

            my : ty ≡ moves_next (N c) w.y
            my = tells_move n-is w.y ay

            abbrev walker_y : Walker
            walker_y = record { x = x; y = y; z = w.z }

            pub asks_y : Asks ty walker_y listX cellsX
            asks_y =
                leg_asks y_axis after_x to d.side_most (inside_y g l s.at) (at_y g l s.at ex ey) (tells_y g l s.at ex ey my)
                listed_x room_y

            module _ {listY : List ℕ} {cellsY : ℕ} (saysY : Says ty walker_y listX cellsX listY cellsY) where
              listed_y : Listed list₀ with_y listY cellsY
              listed_y =
                  leg_listed y_axis after_x to d.side_most (inside_y g l s.at) (at_y g l s.at ex ey) (tells_y g l s.at ex ey my)
                  listed_x room_y saysY

              module _ {z : machine.Axis} {tz : Bool} (sz : z ≡ step_of (read scale) (read (stride_of list_strides z_axis)) w.z)
                  (az : tz ≡ moves_next (read scale) w.z) where
                ez : z ≡ step_of (N c) (pos 1) w.z
                ez = step_is n-is z_axis w.z sz

                mz : tz ≡ moves_next (N c) w.z
                mz = tells_move n-is w.z az

                abbrev walker_z : Walker
                walker_z = record { x = x; y = y; z = z }

                pub asks_z : Asks tz walker_z listY cellsY
                asks_z =
                    leg_asks z_axis after_y to d.side_most (inside_z g l s.at) (at_z g l s.at ex ey ez)
                    (tells_z g l s.at ex ey ez mz) listed_y room_z

                pub more : {listZ : List ℕ} {cellsZ : ℕ} → Says tz walker_z listY cellsY listZ cellsZ →
                    SoFar c list₀ (suc i) walker_z listZ cellsZ
                more {listZ} {cellsZ} saysZ = record {
                  within = l;
                  at = at_next_sample g l s.at ex ey ez;
                  room = s.room;
                  listed =
                      subst (λ ps. Listed list₀ ps listZ cellsZ) (sym all)
                      (leg_listed z_axis after_y to d.side_most (inside_z g l s.at) (at_z g l s.at ex ey ez)
                      (tells_z g l s.at ex ey ez mz) listed_y room_z saysZ);
                }

-- The whole path.
pub done : {c : Curve} {list₀ list : List ℕ} {i n : ℕ} {w : Walker} → SoFar c list₀ i w list n → i ≡ c.steps →
    (g : List ℕ) (p : Cell) → list₀ ≡ sets g 0 (coordinates p) →
    (n ≡ path_length (curve_of c)) ×
    (list ≡ bytes (path (cells (curve_of c))) ++ drop (3 * path_length (curve_of c)) g)
unfolding path_length
done {c} {list₀} {i = i} t e g p q =
    let all : path (cells_to c i) ≡ path (cells (curve_of c)) =
    ap (λ k. path (cells_to c k)) e ∙ ap path (sym (curves.all_cells c.steps c.points c.mark c.choice)) in
    let size = curves.path_length_lem c.steps c.points c.mark c.choice in
    let k : ℕ = 3 * path_length (curve_of c) in (
      t.listed.count ∙ ap length all,
      t.listed.front ∙ ap (λ ps. bytes ps ++ drop (3 * length ps) list₀) all ∙
          ap (bytes (path (cells (curve_of c))) ++◌) (ap (drop k) q ∙ rest_kept p g k (omega (arith, size))),
    )

abbrev pub invariant-loop : goal.invariant-loop
invariant-loop l = SoFar l.fn.curve l.initial.list l.counter l.w l.list l.cells
