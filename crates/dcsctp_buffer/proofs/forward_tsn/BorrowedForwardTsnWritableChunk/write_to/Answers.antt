use Rattle.std.proofs.Common.{◌≡◌, ◌+◌, ◌*◌, ◌∙◌, ℕ, length, map, ap, arith}
use Rattle.dcsctp_tlv.specs.Image.{put}
use Rattle.dcsctp_chunk.specs.SkippedStreams.{is_by_mid}
use Rattle.dcsctp_buffer.proofs.ForwardTsns.{each_of_map, of_placed, to_width, counted, forward_tsn_written}
use Rattle.dcsctp_buffer.proofs.forward_tsn.BorrowedForwardTsnWritableChunk.write_to.Goals as goal

pub put_streams-requires-clause-kind : goal.put_streams-requires-clause-kind
put_streams-requires-clause-kind g c =
    let self = c.args.self.now in
    let view = g.S.AsSkippedStream.stream self.by_mid in
    each_of_map (λ s. is_by_mid s ≡ self.by_mid) view self.skipped_streams.now
    (of_placed self.by_mid _ c.requires.encodable.0)

pub returns-clause-written : goal.returns-clause-written
returns-clause-written g c =
    let self = c.args.self.now in
    let view = g.S.AsSkippedStream.stream self.by_mid in
    let xs = self.skipped_streams.now in
    forward_tsn_written self.by_mid
    (record { tsn = self.new_cumulative_tsn.0; streams = map view xs })
    c.chunk_type.result (4 + c.stream_size.result * length xs) c.args.output.now
    c.put_header.new.output c.put_bytes.new.output c.put_streams.new.output c.chunk_type.ensures
    (ap (λ (n : ℕ). 4 + n) (counted view self.by_mid xs c.stream_size.result
    c.stream_size.ensures)) c.requires.room
    (omega (arith, c.put_header.auto.output, c.requires.room)) c.put_header.ensures
    (c.put_bytes.ensures ∙ ap (put c.put_header.new.output 4) c.bytes.ensures) c.put_streams.ensures.bytes

pub returns-clause-width : goal.returns-clause-width
returns-clause-width g c =
    to_width c.args.self.now.by_mid _ (omega arith) c.put_streams.ensures.width
