use Rattle.dcsctp_c.proofs.writing.dcsctp_add_init_ack.Goals as goal

pub returns : goal.returns
returns c = rw c.init_chunk.ensures at c.add_chunk.ensures
