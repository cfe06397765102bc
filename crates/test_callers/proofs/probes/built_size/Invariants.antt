use Rattle.std.proofs.Common.{take}
use Rattle.dcsctp_wire.specs.Builder.{Holds}
use Rattle.dcsctp_wire.specs.Chunk.{views}
use Rattle.dcsctp_wire.specs.Packet.{meaning_view}
use Rattle.test_callers.proofs.Building.{IsFor}
use Rattle.test_callers.proofs.probes.built_size.Given as goal

-- the chunks so far are held
abbrev pub invariant-loop-chunk : goal.invariant-loop-chunk
invariant-loop-chunk l = record {
  held : Holds l.builder (views (take l.chunk-index l.packet.chunks.items));
  settings : IsFor (meaning_view l.packet) l.builder;
}
