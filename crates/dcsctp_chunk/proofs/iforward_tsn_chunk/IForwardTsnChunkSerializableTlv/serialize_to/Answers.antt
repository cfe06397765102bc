use Rattle.std.proofs.Common.{◌≡◌, subst, sym, true, All}
use Rattle.dcsctp_chunk.{specs.SkippedStreams.{is_by_mid, skipped_stream_view}, proofs.SkippedStreams.{each_by_mid}}
use Rattle.dcsctp_chunk.proofs.iforward_tsn_chunk.IForwardTsnChunkSerializableTlv.serialize_to.Goals as goal

pub put_numbers_and_fields-requires-clause-writable
    : goal.put_numbers_and_fields-requires-clause-writable
put_numbers_and_fields-requires-clause-writable c =
    subst (λ streams. All (λ s. is_by_mid (skipped_stream_view s) ≡ true) streams)
    (sym c.deref.ensures.value) (each_by_mid true c.args.self.now.skipped_streams.items
    c.requires.placed)
