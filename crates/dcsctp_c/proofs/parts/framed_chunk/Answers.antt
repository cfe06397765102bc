use Rattle.dcsctp_c.proofs.Places.{chunk_there}
use Rattle.dcsctp_c.proofs.parts.framed_chunk.Goals as goal

pub returns-clause-chunk : goal.returns-clause-chunk
returns-clause-chunk c =
    rw c.split_at.ensures.back
    (chunk_there c.args.bytes.now c.args.offset c.args.value.now c.args.rest.now
    (λ i. (c.type_inv.bytes i).fits) c.requires.frame c.requires.value c.requires.rest)
