use Rattle.std.proofs.Common.{◌≡◌, take}
use Rattle.dcsctp_tlv.specs.{Format.{tlv_by}, Image.{list_size, list_image, written}}
use Rattle.dcsctp_tlv.proofs.list.put_list.Given as goal

abbrev pub invariant-loop-item : goal.invariant-loop-item
invariant-loop-item g l = record {
  total : l.end ≡ list_size (tlv_by g.T.SerializableTlv.format) (take l.item-index l.list);
  done : l.output ≡ written (list_image (tlv_by g.T.SerializableTlv.format)
      (take l.item-index l.list)) l.fn.output;
}
