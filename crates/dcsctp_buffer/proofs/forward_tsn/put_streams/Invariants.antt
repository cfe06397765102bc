use Rattle.std.{proofs.Common.{◌≡◌, ◌<◌, ◌+◌, ◌*◌, ℕ, take, get_or}, specs.List.{flat_map}}
use Rattle.dcsctp_tlv.specs.Image.{put}
use Rattle.dcsctp_chunk.specs.SkippedStreams.{IsSkippedStreamInWidth}
use Rattle.dcsctp_buffer.specs.ForwardTsn.{stream_bytes, stream_size}
use Rattle.dcsctp_buffer.proofs.forward_tsn.put_streams.Given as goal

abbrev pub invariant-loop-item : goal.invariant-loop-item
invariant-loop-item g l = record {
  end : l.end ≡ l.place + stream_size l.by_mid * l.item-index;
  done : l.output ≡ put l.initial.output l.place (flat_map
      (λ item. stream_bytes l.by_mid (g.S.AsSkippedStream.stream l.by_mid item))
      (take l.item-index l.streams));
  width : (k : ℕ) (d : _) → k < l.item-index → IsSkippedStreamInWidth
      (g.S.AsSkippedStream.stream l.by_mid (get_or l.streams k d));
}
