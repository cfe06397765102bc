use Rattle.std.proofs.Common.{◌≡◌, map, vec_len, vec_capacity}
use Rattle.dcsctp_tlv.specs.Fields.{fields}
use Rattle.dcsctp_tlv.proofs.fields.fields_from_bytes.Given as goal

abbrev pub invariant-loop-i : goal.invariant-loop-i
invariant-loop-i g l = record {
  fields : map g.F.Field.view l.list.items ≡ fields g.F.Field.field_at g.F.Field.SIZE l.i l.bytes;
  len : vec_len l.list ≡ l.i;
  room : vec_capacity l.list ≡ l.count;
}
