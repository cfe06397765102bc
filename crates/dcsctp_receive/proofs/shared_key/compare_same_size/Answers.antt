use Rattle.std.proofs.Common.{sym, arith}
use Rattle.dcsctp_receive.proofs.Vectors.{first_decides}
use Rattle.dcsctp_receive.proofs.shared_key.compare_same_size.Goals as goal

pub returns-then-one-i : goal.returns-then-one-i
returns-then-one-i c =
    first_decides c.loop-i.i c.args.one.now c.args.other.now c.requires
    (λ i. (c.type_inv.one i).fits) (λ i. (c.type_inv.other i).fits) c.loop-i.invariant
    c.loop-i-test.true c.if-one-i.true

pub returns-then-one-i-2 : goal.returns-then-one-i-2
returns-then-one-i-2 c =
    first_decides c.loop-i.i c.args.other.now c.args.one.now (sym c.requires)
    (λ i. (c.type_inv.other i).fits) (λ i. (c.type_inv.one i).fits) (sym c.loop-i.invariant)
    (omega arith) c.if-one-i-2.true
