use Rattle.dcsctp_chunk.proofs.data_chunk.DataChunkSerializableTlv.serialize_to.Goals as goal

pub returns : goal.returns
returns c =
    rw (c.flags-flags.ensures, c.fixed.ensures, c.deref.ensures.value) at
    c.put_fixed_and_rest.ensures
