-- `extended` meets its contract: one byte more is one digit more, and remainders are below their moduli.
use Rattle.std.proofs.Common.{refl, ◌∙◌, arith, rules}
use Rattle.cases.specs.Bytes.{reduced, with_bytes}
use Rattle.cases.proofs.Digested.{next_digest}
use Rattle.cases.proofs.digest.Digest.extended.Goals as goal

pub loop-byte-init : goal.loop-byte-init
unfolding with_bytes
loop-byte-init c = (omega arith, omega arith, omega arith, refl)

pub loop-byte-preserved : goal.loop-byte-preserved
loop-byte-preserved c =
    let l = c.loop-byte in
    let e = c.with-digest.ensures in (
      rw e (search rules),
      rw e (omega arith),
      rw e (omega arith),
      e ∙ next_digest (reduced c.args.self) l.digest c.args.bytes.now l.byte-index l.invariant.3 c.loop-byte-test.true,
    )
