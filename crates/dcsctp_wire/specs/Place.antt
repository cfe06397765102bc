-- What a check of a packet returns that says where the fault lies (RFC 9260 section 3).
use Rattle.std.specs.Prelude.{ℕ, List, Option, None, Some, Result, Ok, Err}
use Rattle.dcsctp_tlv.specs.{declared.reader.Counts.{Counts}, Reading.{Errors, Counted, counts}}
use Rattle.dcsctp_wire.specs.{declared.packet.sctp_packet.ChecksumPolicy.{ChecksumPolicy}, declared.packet.first_fault.FirstFault.{FirstFault}, Chunk.{parts as chunk_parts}, Packet.{PacketTree, PacketFault, Placed, packet_error_of}}

abbrev pub packet_locating : Errors (PacketFault × ℕ) FirstFault
packet_locating = record {
  of = λ f. record { fault = packet_error_of f.0; offset = f.1 };
  out_of_memory = λ e. ⊥;
}

-- the answer and its place, without the packet
abbrev pub PacketLocated : List ℕ → ℕ → ChecksumPolicy
    → Result (Unit {0}) (PacketFault × ℕ) → Type 0
PacketLocated bytes word policy = Counted (λ p. tt) (Placed bytes word policy)

-- the numbers of the chunks and of all parts
abbrev pub packet_counts : PacketTree → Counts
packet_counts p = counts chunk_parts p.meaning.chunks

-- no fault is a good result
abbrev pub refused : {E : Type 0} → Option E → Result (Unit {0}) E
refused None = Ok tt
refused (Some e) = Err e
