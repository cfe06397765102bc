use Rattle.std.proofs.Common.{◌≡◌, take, vec_len, vec_capacity}
use Rattle.dcsctp_tlv.proofs.copy.copied_one_by_one.Given as goal

abbrev pub invariant-loop-item : goal.invariant-loop-item
invariant-loop-item g l = record {
  items : l.copy.items ≡ take l.item-index l.items;
  len : vec_len l.copy ≡ l.item-index;
  room : vec_capacity l.copy ≡ l.room;
}
