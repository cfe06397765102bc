use Rattle.std.proofs.Common.{length, vec_len, vec_capacity, All, map}
use Rattle.dcsctp_tlv.{specs.Frame.{lenient}, proofs.Checks.{Building}}
use Rattle.dcsctp_tlv.proofs.reader.list_fill.Given as goal

abbrev pub invariant-loop-rest : goal.invariant-loop-rest
invariant-loop-rest g l = record {
  building : Building (g.T.ReadableTlv.level lenient) l.bytes l.rest
      (map g.T.ReadableTlv.view l.list.items) (vec_len l.list) (vec_capacity l.list);
  tight : All g.T.ReadableTlv.is_tight l.list.items;
}

abbrev pub decreases-loop-rest : goal.decreases-loop-rest
decreases-loop-rest g l = length l.rest
