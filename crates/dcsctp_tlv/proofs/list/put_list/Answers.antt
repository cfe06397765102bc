use Rattle.std.proofs.Common.{arith, ◌∙◌, ap}
use Rattle.dcsctp_tlv.{proofs.Lengths.{length-format}, specs.Frame.{round_up_to_4}, proofs.Images.{room_for, written_more}, proofs.Listed.{written_length}}
use Rattle.dcsctp_tlv.proofs.list.put_list.Goals as goal

pub round_up_to_4-start-requires : goal.round_up_to_4-start-requires
round_up_to_4-start-requires g c =
    let n = room_for c.requires.encodable c.loop-item-test.true c.item-item.is in
    omega (arith, n.1, n.2)

pub split_at_mut-rest-requires : goal.split_at_mut-rest-requires
split_at_mut-rest-requires g c =
    let n = room_for c.requires.encodable c.loop-item-test.true c.item-item.is in
    omega (arith, n.1, n.2)

pub serialize_to-requires-clause-room : goal.serialize_to-requires-clause-room
serialize_to-requires-clause-room g c =
    let n = room_for c.requires.encodable c.loop-item-test.true c.item-item.is in
    omega (arith, n.1, n.2)

pub serialize_to-requires-clause-encodable : goal.serialize_to-requires-clause-encodable
serialize_to-requires-clause-encodable g c =
    let n = room_for c.requires.encodable c.loop-item-test.true c.item-item.is in
    omega (arith, n.1, n.2)

pub frame_length-requires : goal.frame_length-requires
frame_length-requires g c =
    let n = room_for c.requires.encodable c.loop-item-test.true c.item-item.is in
    omega (arith, n.1, n.2)

pub overflow_add-end : goal.overflow_add-end
overflow_add-end g c =
    let n = room_for c.requires.encodable c.loop-item-test.true c.item-item.is in
    let size = c.frame_length.ensures ∙ written_length _ _ _ (omega (arith, n.1, n.2))
    (omega (arith, n.1, n.2)) c.serialize_to.ensures in
    omega (arith, n.1, n.2, size)

pub loop-item-preserved : goal.loop-item-preserved
loop-item-preserved g c =
    let n = room_for c.requires.encodable c.loop-item-test.true c.item-item.is in
    let size = c.frame_length.ensures ∙ written_length _ _ _ (omega (arith, n.1, n.2))
    (omega (arith, n.1, n.2)) c.serialize_to.ensures in
    record {
      total = omega (arith, n.1, size);
      done = rw (
        c.split_at_mut-rest.ensures.front,
        c.serialize_to.ensures,
        c.split_at_mut-rest.ensures.back,
      ) (written_more _ c.args.list.now _ (λ x. length-format (g.T.SerializableTlv.format x))
          c.loop-item-test.true c.item-item.is c.loop-item.invariant.done
          (c.round_up_to_4-start.ensures ∙ ap round_up_to_4 c.loop-item.invariant.total));
    }
