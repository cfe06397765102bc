use Rattle.std.proofs.Common.{◌≡◌, ◌^◌, ◌<◌, take, get_or, ℕ}
use Rattle.dcsctp_tlv.specs.{Format.{tlv_by}, Image.{list_size}}
use Rattle.dcsctp_tlv.proofs.list.encoded_list_size.Given as goal

abbrev pub invariant-loop-item : goal.invariant-loop-item
invariant-loop-item g l = record {
  total : l.total ≡ list_size (tlv_by g.T.SerializableTlv.format) (take l.item-index l.list);
  small : l.total < 2 ^ 16;
  each : (k : ℕ) (d : g.row.T.Denot) → k < l.item-index
      → g.T.SerializableTlv.placed (get_or l.list k d);
}
