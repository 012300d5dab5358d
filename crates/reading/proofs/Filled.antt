-- What is read lies within the buffer, by induction on the reads: none puts more bytes than there is room for.
use mathlib.Core.Path.{◌≡◌, refl, ◌∙◌}
use mathlib.Core.List.{List}
use Prim.Native.Nat.{ℕ}
use native.Mathlib.Omega.{arith}
use Rattle.std.specs.Prelude.{Result}
use Rattle.reading.specs.declared.ReadFailed.{ReadFailed}
use Rattle.reading.specs.Read.{Reads, none, more, Filled, full, ended, failed, ReadInto, count_of}

reads_into : {before after : List ℕ} {count : ℕ} → Reads before count after → ReadInto before count after
reads_into none = record { same = refl; within = omega arith }
reads_into (more reads one some) =
    let i = reads_into reads in
    record { same = one.same ∙ i.same; within = omega (arith, one.moved) }

pub filled_into : {before after : List ℕ} {answer : Result ℕ ReadFailed} → Filled before answer after →
    ReadInto before (count_of answer) after
filled_into (full reads e) = reads_into reads
filled_into (ended reads room one) = let i = reads_into reads in record { same = one.same ∙ i.same; within = i.within }
filled_into (failed reads room one) = let i = reads_into reads in record { same = one.same ∙ i.same; within = i.within }
