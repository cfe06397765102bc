use Rattle.std.proofs.Common.{◌≡◌, List, Ok}
use Rattle.dcsctp_wire.specs.Chunk.{ChunkTree}
use Rattle.dcsctp_wire.specs.Packet.{PacketTree, Answer}
use Rattle.dcsctp_borrowed.specs.RawChunks.{MeanChunks}
use Rattle.test_callers.specs.Walk.{with_chunks}
use Rattle.test_callers.specs.declared.probes.TheConstants.{ANY_CHECKSUM}
use Rattle.test_callers.proofs.probes.walk.probes_walk.Given as goal

-- what the chunks add that are left, after those that were gone over, is the packet's sum
abbrev pub invariant-loop-chunk : goal.invariant-loop-chunk
invariant-loop-chunk l = (p : PacketTree) → Answer l.bytes 0 ANY_CHECKSUM (Ok p)
    → (left : List ChunkTree) × MeanChunks l.chunk-iterator left
    × (with_chunks l.sum left ≡ with_chunks 0 p.meaning.chunks)
