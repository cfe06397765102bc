use Rattle.std.proofs.Common.{arith}
use Rattle.dump_messages.specs.Channels.{IsOf}
use Rattle.dump_packet.proofs.Firsts.{none_more, none_of_all}
use Rattle.dump_messages.proofs.channels.Channels.find.Goals as goal

pub loop-place-preserved : goal.loop-place-preserved
loop-place-preserved c =
    let xs = c.args.self.now.list.items in
    let is = rw c.deref-channel-items.ensures.value at c.channel-item.is in
    none_more (IsOf c.args.message.now) xs c.loop-place.place c.channel-item.result (omega arith) is
    (λ h. let met = c.if-has.ensures.1 h in cc) c.loop-place.invariant

pub returns-clause-none : goal.returns-clause-none
returns-clause-none c =
    none_of_all (IsOf c.args.message.now) c.args.self.now.list.items c.loop-place.place
    (omega arith) c.loop-place.invariant
