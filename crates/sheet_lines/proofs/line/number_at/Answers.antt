-- `number_at` meets its contract: the field is the part that is read.
use mathlib.Core.Path.{◌≡◌}
use Prim.Native.Nat.{◌+◌, ◌-◌, ◌*◌}
use native.Mathlib.Omega.{arith}
use Rattle.sheet_lines.proofs.line.number_at.Goals as goal

pub returns : goal.returns
returns c =
    let k = c.args.k in
    let five : 5 * k + 5 - 5 * k ≡ 5 = omega arith in
    rw five at c.number.ensures
