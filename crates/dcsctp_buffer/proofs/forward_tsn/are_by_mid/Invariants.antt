-- The streams so far are as wanted, and those that are left decide.
use Rattle.std.proofs.Common.{◌↔◌, drop, map}
use Rattle.dcsctp_chunk.specs.SkippedStreams.{AreByMid}
use Rattle.dcsctp_buffer.proofs.forward_tsn.are_by_mid.Given as goal

abbrev pub invariant-loop-item : goal.invariant-loop-item
invariant-loop-item g l =
    AreByMid l.by_mid (map (g.S.AsSkippedStream.stream l.by_mid) l.streams)
    ↔ AreByMid l.by_mid (map (g.S.AsSkippedStream.stream l.by_mid) (drop l.item-index l.streams))
