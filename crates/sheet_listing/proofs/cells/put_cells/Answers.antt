-- `put_cells` meets its contract: after each row the lines of the cells up to p are written, and x, y, z are the
-- coordinates of byte p while there are places left.
use borrow.Author.Rules.{rules}
use mathlib.Core.Path.{◌≡◌, refl}
use Prim.Native.Nat.{◌-◌}
use native.Mathlib.Nat.{mod-lt}
use native.Mathlib.Omega.{arith}
use Rattle.sheet.specs.Printed.{cell_lines}
use Rattle.sheet_text.proofs.Puts.{puts_none}
use Rattle.cube.proofs.Places.{coordinates_of}
use Rattle.sheet_listing.proofs.cells.put_cells.Invariants.{Turn, carried, stayed, marks, next, y_most}
use Rattle.sheet_listing.proofs.cells.put_cells.Goals as goal

pub loop-p-init : goal.loop-p-init
unfolding cell_lines
loop-p-init c =
    let a = c.args in
    let none : a.first - a.first ≡ 0 = omega arith in
    record {
      from = search rules;
      until = search rules;
      stands = λ l. record {
        x_in = mod-lt _ (omega arith);
        y_in = mod-lt _ (omega arith);
        is = coordinates_of a.cube.side a.first;
      };
      puts = rw none (puts_none _);
      most = omega arith;
    }

pub loop-p-preserved-then-y-side : goal.loop-p-preserved-then-y-side
unfolding marks
loop-p-preserved-then-y-side c =
    let a = c.args in
    let l = c.loop-p in
    let t : Turn a.cube.side a.cube.bytes.now a.first a.n a.text.now l.text l.x l.y l.z l.p l.bytes c.min-stop.result = record {
      least = a.cube.side_in.0;
      most = a.cube.side_in.1;
      size = a.cube.whole;
      places = c.requires.n_in_cube;
      so_far = l.invariant;
      left = c.loop-p-test.true;
      stops = c.min-stop.ensures;
    } in
    next t refl c.put_row-bytes.ensures (carried t (omega arith))

pub loop-p-preserved : goal.loop-p-preserved
unfolding marks
loop-p-preserved c =
    let a = c.args in
    let l = c.loop-p in
    let t : Turn a.cube.side a.cube.bytes.now a.first a.n a.text.now l.text l.x l.y l.z l.p l.bytes c.min-stop.result = record {
      least = a.cube.side_in.0;
      most = a.cube.side_in.1;
      size = a.cube.whole;
      places = c.requires.n_in_cube;
      so_far = l.invariant;
      left = c.loop-p-test.true;
      stops = c.min-stop.ensures;
    } in
    next t refl c.put_row-bytes.ensures (stayed t (omega (arith, y_most t)))
