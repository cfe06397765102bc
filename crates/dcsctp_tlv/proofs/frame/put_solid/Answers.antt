use Rattle.std.proofs.Common.{◌∙◌, refl, length}
use Rattle.dcsctp_tlv.proofs.Puts.{written_value}
use Rattle.dcsctp_tlv.proofs.frame.put_solid.Goals as goal

pub returns : goal.returns
returns c =
    c.put_bytes.ensures
    ∙ written_value c.args.first c.args.second (length c.args.value.now) c.args.value.now
    c.args.output.now c.put_header.new.output refl c.requires.room c.put_header.ensures
