-- `list_moved` meets its contract.
use Rattle.std.proofs.Common.{◌≡◌, true, refl, arith, rules}
use Rattle.path.proofs.list.list_moved.Goals as goal

pub put_cell-requires : goal.put_cell-requires
put_cell-requires c =
    let e : c.args.moved ≡ true = search rules in
    record {
      byte_cell = c.requires.byte_cell;
      at_in_bounds = omega (arith, rw e at c.requires.cells_bound.1);
    }

pub returns-then-moved : goal.returns-then-moved
returns-then-moved c =
    let e : c.args.moved ≡ true = search rules in
    rw e (record { value = refl; list_after = c.put_cell.ensures })

pub returns : goal.returns
returns c = rw c.if-moved.false (record { value = omega arith; list_after = refl })
