use Rattle.std.proofs.Common.{◌+◌, ◌≤◌, Ok, length}
use Rattle.dcsctp_wire.specs.Packet.{PacketTree, Answer}
use Rattle.test_callers.specs.Payload.{payload_sizes}
use Rattle.test_callers.proofs.Chunks.{IsSized}
use Rattle.test_callers.proofs.in_place.payload_size.Given as goal

abbrev pub invariant-loop-raw : goal.invariant-loop-raw
invariant-loop-raw l = record {
  small : l.size + length l.raw-iterator ≤ length l.bytes;
  sized : (p : PacketTree) → Answer l.bytes l.word l.policy (Ok p)
      → IsSized l.size l.raw-iterator (payload_sizes p.meaning.chunks);
}
