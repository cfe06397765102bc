use Rattle.dcsctp_c.proofs.parts.dcsctp_chunk_at.Goals as goal

pub framed_chunk-requires-clause-value : goal.framed_chunk-requires-clause-value
framed_chunk-requires-clause-value c = rw c.split_at.ensures.back at c.in-Ok.ensures.value

pub framed_chunk-requires-clause-rest : goal.framed_chunk-requires-clause-rest
framed_chunk-requires-clause-rest c = rw c.split_at.ensures.back at c.in-Ok.ensures.rest
