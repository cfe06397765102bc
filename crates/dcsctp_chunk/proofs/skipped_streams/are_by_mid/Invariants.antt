-- The streams so far are as wanted, and those that are left decide.
use Rattle.std.proofs.Common.{◌↔◌, drop}
use Rattle.dcsctp_chunk.specs.SkippedStreams.{AreByMid, skipped_stream_views}
use Rattle.dcsctp_chunk.proofs.skipped_streams.are_by_mid.Given as goal

abbrev pub invariant-loop-stream : goal.invariant-loop-stream
invariant-loop-stream l = AreByMid l.by_mid (skipped_stream_views l.streams)
    ↔ AreByMid l.by_mid (skipped_stream_views (drop l.stream-index l.streams))
