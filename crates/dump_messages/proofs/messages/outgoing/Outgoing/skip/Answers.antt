use Rattle.std.proofs.Common.{arith}
use Rattle.dump_messages.specs.declared.messages.message.Fate.TheVariants.{Abandoned}
use Rattle.dump_messages.proofs.Fates.{adds_more}
use Rattle.dump_messages.proofs.messages.outgoing.Outgoing.skip.Goals as goal

pub loop-index-preserved : goal.loop-index-preserved
loop-index-preserved c = (
  adds_more (Abandoned c.args.chunk c.args.moment) c.args.ended.now.list.items
      c.loop-index.ended.list.items c.end_named.new.ended.list.items c.loop-index.invariant.0
      c.in_ok-end_named.ensures.fate,
  omega (arith, c.in_ok-end_named.ensures.count, c.loop-index.invariant.1),
)
