-- The lines of the chunks so far are written.
use Rattle.std.{proofs.Common.{take}, specs.Fmt.{HasWritten, IsPlainFormatter}}
use Rattle.dcsctp_wire.specs.{Chunk.{views}, PacketText.{next_lines}}
use Rattle.dcsctp_wire.proofs.packet.sctp_packet.write_lines.Given as goal

abbrev pub invariant-loop-chunk : goal.invariant-loop-chunk
invariant-loop-chunk g l = IsPlainFormatter l.initial.f
    → HasWritten g.W.Write.write_str_gives l.initial.f
    (next_lines (views (take l.chunk-index l.chunks))) l.f
