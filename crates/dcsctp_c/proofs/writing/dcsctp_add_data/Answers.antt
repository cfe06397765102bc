use Rattle.dcsctp_borrowed.proofs.StreamKeys.{key_unordered, key_stream}
use Rattle.dcsctp_c.proofs.writing.dcsctp_add_data.Goals as goal

pub returns : goal.returns
returns c =
    let d = c.args.user_data.now in
    rw (
      c.new.ensures,
      key_unordered d.is_unordered (record { 0 = d.stream }),
      key_stream d.is_unordered (record { 0 = d.stream }),
    ) at c.add_chunk.ensures
