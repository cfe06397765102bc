use Rattle.std.proofs.Common.{◌≡◌, subst, sym, false, All}
use Rattle.dcsctp_chunk.{specs.SkippedStreams.{is_by_mid, skipped_stream_view}, proofs.SkippedStreams.{each_by_mid}}
use Rattle.dcsctp_chunk.proofs.forward_tsn_chunk.ForwardTsnChunkSerializableTlv.serialize_to.Goals as goal

pub put_numbers_and_fields-requires-clause-writable
    : goal.put_numbers_and_fields-requires-clause-writable
put_numbers_and_fields-requires-clause-writable c =
    subst (λ streams. All (λ s. is_by_mid (skipped_stream_view s) ≡ false) streams)
    (sym c.deref.ensures.value) (each_by_mid false c.args.self.now.skipped_streams.items
    c.requires.placed)
