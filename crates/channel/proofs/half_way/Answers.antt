-- `half_way` of two channels meets its contract.
use mathlib.Core.Path.{◌≡◌, refl, sym, subst}
use lib.Dec.{T}
use lib.Ieee.{binary32, of_bits, add, mul}
use Rattle.channel.specs.HalfWay.{half32}
use Rattle.channel.proofs.HalfWay.{half_between, minus_zeros}
use Rattle.channel.proofs.half_way.Goals as goal

-- The bit pattern of 0.5.
half_bits : of_bits binary32 0x3f00_0000 ≡ half32
unfolding of_bits
half_bits = refl

pub returns : goal.returns
returns c =
    let a = c.args.a in
    let b = c.args.b in
    let s = add binary32 a b in
    let e : mul binary32 s (of_bits binary32 0x3f00_0000) ≡ mul binary32 s half32 = rw half_bits in
    let f = subst T (sym c.well_formed.0.1) tt in
    let g = subst T (sym c.well_formed.1.0.1) tt in
    let z = half_between a b f g c.requires.t c.requires.t_2 in
    record {
      formula = e;
      low = rw e z.0;
      high = rw e z.1;
      minus_zero = λ p q. rw (e, p, q) minus_zeros;
    }
