use Rattle.std.proofs.Common.{Ok}
use Rattle.dcsctp_wire.specs.Packet.{PacketTree, Answer}
use Rattle.test_callers.proofs.Chunks.{IsBuilt}
use Rattle.test_callers.proofs.in_place.owned_chunks.Given as goal

abbrev pub invariant-loop-raw : goal.invariant-loop-raw
invariant-loop-raw l = (p : PacketTree) → Answer l.bytes l.word l.policy (Ok p)
    → IsBuilt l.chunks.items l.raw-iterator p.meaning.chunks
