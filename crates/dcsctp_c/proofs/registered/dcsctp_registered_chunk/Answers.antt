use Rattle.std.proofs.Common.{refl}
use Rattle.dcsctp_registry.specs.ChunkLayouts.{chunk_rows}
use Rattle.dcsctp_c.proofs.RegisteredPlaces.{chunk_kept, reads_into}
use Rattle.dcsctp_c.proofs.registered.dcsctp_registered_chunk.Goals as goal

pub returns-in-Some-clause-read : goal.returns-in-Some-clause-read
returns-in-Some-clause-read c =
    let it = c.args.chunk.now in
    reads_into chunk_rows it.typ it.flags c.args.bytes.now it.value_offset it.value_size
    c.in-Some.value.now _ _ _ _ _ (c.in-Some.ensures) c.chunk_by_type.ensures refl
    c.put.ensures.done c.put.ensures.output

pub returns-in-Some-clause-means : goal.returns-in-Some-clause-means
returns-in-Some-clause-means c t m =
    let it = c.args.chunk.now in
    reads_into chunk_rows it.typ it.flags c.args.bytes.now it.value_offset it.value_size
    c.in-Some.value.now _ _ _ _ _ (c.in-Some.ensures) c.chunk_by_type.ensures
    (chunk_kept c.args.bytes.now it t m) c.put.ensures.done c.put.ensures.output
