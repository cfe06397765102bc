use Rattle.std.proofs.Common.{arith}
use Rattle.dcsctp_tlv.{specs.Format.{tlv_by}, proofs.Images.{room_for, not_total, total_more, all_more}}
use Rattle.dcsctp_tlv.proofs.list.encoded_list_size.Goals as goal

pub returns-in_default : goal.returns-in_default
returns-in_default g c = λ h.
    let n = room_for h c.loop-item-test.true c.item-item.is in
    c.in_default.ensures (n.0, omega (arith, n.1, n.2, h.total))

pub returns-then-total-gt65535 : goal.returns-then-total-gt65535
returns-then-total-gt65535 g c = λ h.
    not_total h c.loop-item-test.true c.item-item.is c.loop-item.invariant.total
    (omega (arith, c.in-Some.ensures.1))

pub loop-item-preserved : goal.loop-item-preserved
loop-item-preserved g c = record {
  total = total_more (tlv_by g.T.SerializableTlv.format) c.args.list.now c.loop-item-test.true
      c.item-item.is c.loop-item.invariant.total (omega (arith, c.in-Some.ensures.1));
  small = omega arith;
  each = all_more g.T.SerializableTlv.placed c.args.list.now c.loop-item.item-index
      c.item-item.result c.loop-item-test.true c.item-item.is c.in-Some.ensures.0.0
      c.loop-item.invariant.each;
}
