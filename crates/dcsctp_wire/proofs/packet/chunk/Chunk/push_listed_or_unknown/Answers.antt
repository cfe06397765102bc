use Rattle.std.proofs.Common.{refl}
use Rattle.dcsctp_wire.proofs.Filled.{filled}
use Rattle.dcsctp_wire.specs.declared.packet.chunk.Chunk.TheVariants as variant
use Rattle.dcsctp_wire.proofs.packet.chunk.Chunk.push_listed_or_unknown.Goals as goal

pub returns-in_ok-fill-in-1-clause-grows : goal.returns-in_ok-fill-in-1-clause-grows
returns-in_ok-fill-in-1-clause-grows c = rw c.in-1.is (filled c.args.list.now _ (variant.Init c.fill.new.self)
    c.push_reserved.ensures.items c.len-last.ensures (_, c.in_ok-fill-in-1.ensures.meant, refl)
    c.in_ok-fill-in-1.ensures.tight)

pub returns-in_ok-fill-in-2-clause-grows : goal.returns-in_ok-fill-in-2-clause-grows
returns-in_ok-fill-in-2-clause-grows c = rw c.in-2.is (filled c.args.list.now _ (variant.InitAck c.fill-in-InitAck.new.self)
    c.push_reserved-in-2.ensures.items c.len-last-in-2.ensures (_, c.in_ok-fill-in-2.ensures.meant, refl)
    c.in_ok-fill-in-2.ensures.tight)

pub returns-in_ok-fill-in-4-clause-grows : goal.returns-in_ok-fill-in-4-clause-grows
returns-in_ok-fill-in-4-clause-grows c = rw c.in-4.is (filled c.args.list.now _ (variant.HeartbeatRequest c.fill-in-HeartbeatRequest.new.self)
    c.push_reserved-in-4.ensures.items c.len-last-in-4.ensures (_, c.in_ok-fill-in-4.ensures.meant, refl)
    c.in_ok-fill-in-4.ensures.tight)

pub returns-in_ok-fill-in-5-clause-grows : goal.returns-in_ok-fill-in-5-clause-grows
returns-in_ok-fill-in-5-clause-grows c = rw c.in-5.is (filled c.args.list.now _ (variant.HeartbeatAck c.fill-in-HeartbeatAck.new.self)
    c.push_reserved-in-5.ensures.items c.len-last-in-5.ensures (_, c.in_ok-fill-in-5.ensures.meant, refl)
    c.in_ok-fill-in-5.ensures.tight)

pub returns-in_ok-fill-in-6-clause-grows : goal.returns-in_ok-fill-in-6-clause-grows
returns-in_ok-fill-in-6-clause-grows c = rw c.in-6.is (filled c.args.list.now _ (variant.Abort c.fill-in-Abort.new.self)
    c.push_reserved-in-6.ensures.items c.len-last-in-6.ensures (_, c.in_ok-fill-in-6.ensures.meant, refl)
    c.in_ok-fill-in-6.ensures.tight)

pub returns-in_ok-fill-in-9-clause-grows : goal.returns-in_ok-fill-in-9-clause-grows
returns-in_ok-fill-in-9-clause-grows c = rw c.in-9.is (filled c.args.list.now _ (variant.Error c.fill-in-Error.new.self)
    c.push_reserved-in-9.ensures.items c.len-last-in-9.ensures (_, c.in_ok-fill-in-9.ensures.meant, refl)
    c.in_ok-fill-in-9.ensures.tight)

pub returns-in_ok-fill-in-130-clause-grows : goal.returns-in_ok-fill-in-130-clause-grows
returns-in_ok-fill-in-130-clause-grows c = rw c.in-130.is (filled c.args.list.now _ (variant.ReConfig c.fill-in-ReConfig.new.self)
    c.push_reserved-in-130.ensures.items c.len-last-in-130.ensures (_, c.in_ok-fill-in-130.ensures.meant, refl)
    c.in_ok-fill-in-130.ensures.tight)
