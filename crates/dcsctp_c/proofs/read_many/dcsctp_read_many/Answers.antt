use Rattle.std.proofs.Common.{◌≡◌, ◌∙◌, ◌≤◌, ℕ, List, sym, ap, subst, arith, length, take, take_all}
use Rattle.std.proofs.lemmas.List.{take_more_set}
use Rattle.dcsctp_c.specs.{Code.{policy_of}, PlacedPacket.{IsPacketAt, rows_end, IsAsked}, Walk.{AreFrom, end_of, MeanEach}, declared.structs.DcsctpPlacedPacket.{DcsctpPlacedPacket}}
use Rattle.dcsctp_c.proofs.{Walks.{others_stay, end_last, last_at}, PlacedPackets.{packets_stay, ends_stay, later_stay, asked_more}}
use Rattle.dcsctp_c.proofs.read_many.dcsctp_read_many.Goals as goal

pub loop-index-preserved : goal.loop-index-preserved
loop-index-preserved c =
    let block = c.args.bytes.now in
    let policy = policy_of c.args.policy.now in
    let before = c.loop-index.invariant in
    let index = c.loop-index.index in
    let lt = c.loop-index-test.true in
    let all = c.loop-index.auto.packets in
    let used = c.loop-index.used in
    let packets = c.loop-index.packets in
    let done = take index packets in
    let old = c.loop-index.rows in
    let rows = c.read_next-used.new.rows in
    let packet = c.read_next-used.new.packet in
    let next = c.read_next-used.ensures in
    let size : length rows ≡ length old = c.read_next-used.auto.rows in
    let more = take_more_set packets index packet (omega (arith, lt, all)) in
    let few : end_of (rows_end old) 0 done ≤ used = omega (arith, before.count) in
    record {
      room = omega (arith, next.count);
      read = subst (AreFrom (IsPacketAt block policy rows) (rows_end rows) 0) (sym more)
          (last_at (IsPacketAt block policy rows) (rows_end rows) 0 done packet
          (packets_stay block policy old rows used size next.before 0 done (omega arith) few before.read)
          (subst (λ (n : ℕ). IsPacketAt block policy rows n packet)
          (before.count ∙ sym (ends_stay block policy old rows used size next.before 0 done)) next.at));
      count = next.count ∙ sym (ap (end_of (rows_end rows) 0) more
          ∙ end_last (rows_end rows) 0 done packet);
      asked = asked_more packets c.args.packets.now index packet _ all lt before.rest before.asked
          next.asked;
      rest = others_stay packets c.args.packets.now index packet before.rest;
      after = next.after ∙ later_stay used c.read_next-used.result old c.args.rows.now
          (omega (arith, next.count, next.at.first, before.room, size)) before.after;
    }

-- all packets were read
none_left : {X : Type 0} (index : ℕ) (all now : List X) → length all ≤ index
    → length now ≡ length all → take index now ≡ now
none_left index all now end size = take_all index now (omega (arith, end, size))

pub returns-clause-read : goal.returns-clause-read
returns-clause-read c =
    let all = none_left c.loop-index.index c.args.packets.now c.loop-index.packets
    c.loop-index-test.false c.loop-index.auto.packets in
    subst (AreFrom (IsPacketAt c.args.bytes.now (policy_of c.args.policy.now) c.loop-index.rows)
    (rows_end c.loop-index.rows) 0) all c.loop-index.invariant.read

pub returns-clause-count : goal.returns-clause-count
returns-clause-count c =
    let all = none_left c.loop-index.index c.args.packets.now c.loop-index.packets
    c.loop-index-test.false c.loop-index.auto.packets in
    c.loop-index.invariant.count ∙ ap (end_of (rows_end c.loop-index.rows) 0) all

pub returns-clause-asked : goal.returns-clause-asked
returns-clause-asked c =
    let all = none_left c.loop-index.index c.args.packets.now c.loop-index.packets
    c.loop-index-test.false c.loop-index.auto.packets in
    subst (λ (ps : List DcsctpPlacedPacket). MeanEach IsAsked ps c.args.packets.now) all
    (subst (MeanEach IsAsked (take c.loop-index.index c.loop-index.packets))
    (take_all c.loop-index.index c.args.packets.now c.loop-index-test.false)
    c.loop-index.invariant.asked)
