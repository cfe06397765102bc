use Rattle.std.proofs.Common.{arith}
use Rattle.dcsctp_c.proofs.Fills.{one_more}
use Rattle.dcsctp_c.proofs.fill.write_items.Goals as goal

pub loop-item-preserved : goal.loop-item-preserved
loop-item-preserved c =
    let here = c.in-Some.ensures.read in
    let before = c.loop-item.invariant in
    rw c.put_item.ensures (record {
      few = omega (arith, before.few, here.item.after);
      written = one_more c.args.bytes.now c.args.start c.args.items.now c.loop-item.items
          c.loop-item.count c.loop-item.offset c.in-Some.item before.written here;
    })
