use Rattle.std.{proofs.Common.{◌≡◌, ◌+◌, ◌*◌, take}, specs.List.{flat_map}}
use Rattle.dcsctp_tlv.specs.Image.{put}
use Rattle.dcsctp_tlv.proofs.fields.put_fields.Given as goal

abbrev pub invariant-loop-value : goal.invariant-loop-value
invariant-loop-value g l = record {
  end : l.end ≡ l.place + g.F.Field.SIZE * l.value-index;
  done : l.output ≡ put l.initial.output l.place
      (flat_map (λ value. g.F.Field.field_bytes (g.F.Field.view value))
      (take l.value-index l.list));
}
