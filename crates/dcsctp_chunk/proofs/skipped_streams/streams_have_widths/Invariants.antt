-- The streams so far fit, and those that are left decide.
use Rattle.std.{proofs.Common.{drop}, specs.List.{AllByRecursion}}
use Rattle.dcsctp_chunk.specs.SkippedStreams.{IsSkippedStreamInWidth, skipped_stream_views}
use Rattle.dcsctp_chunk.proofs.skipped_streams.streams_have_widths.Given as goal

abbrev pub invariant-loop-stream : goal.invariant-loop-stream
invariant-loop-stream l =
    AllByRecursion IsSkippedStreamInWidth (skipped_stream_views (drop l.stream-index l.streams))
    → AllByRecursion IsSkippedStreamInWidth (skipped_stream_views l.streams)
