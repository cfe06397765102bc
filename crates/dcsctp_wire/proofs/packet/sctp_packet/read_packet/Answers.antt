use Rattle.std.proofs.{Common.{ap}, lemmas.List.{take_rest}}
use Rattle.dcsctp_tlv.{specs.declared.reader.Counts.{Counts}, specs.Frame.{lenient}, proofs.Lenient.{list_looser}}
use Rattle.dcsctp_wire.{specs.Chunk.{chunks, views}, specs.Packet.{body, with_header}, specs.declared.packet.common_header.CommonHeader.{CommonHeader}, proofs.ChunkRows.{chunks_looser}, proofs.Lenient.{built_means}}
use Rattle.dcsctp_wire.proofs.packet.sctp_packet.read_packet.Goals as goal

pub list_build-requires : goal.list_build-requires
list_build-requires c =
    let bytes = c.args.bytes.now in
    let strict = c.args.policy.now.strict_padding in
    let found = c.in_ok-counts.ensures.found in
    rw (take_rest bytes 12) (
      found.0.meaning.chunks,
      list_looser (chunks strict) (chunks lenient)
          (chunks_looser strict) (body bytes) found.0.meaning.chunks found.1.1.chunks,
      ap (λ (n : Counts). n.items) found.2,
    )

pub returns-clause-answer : goal.returns-clause-answer
returns-clause-answer c =
    let bytes = c.args.bytes.now in
    let found = c.in_ok-counts.ensures.found in
    let built = rw (take_rest bytes 12) at c.in_ok-chunks.ensures.meant in (
      found.1.0,
      record {
        header = ap (λ (h : CommonHeader). with_header h (views c.in_ok-chunks.chunks.items))
            c.read.ensures;
        chunks = built_means c.args.policy.now.strict_padding (body bytes) found.0.meaning.chunks
            (views c.in_ok-chunks.chunks.items) found.1.1.chunks built;
      },
    )
