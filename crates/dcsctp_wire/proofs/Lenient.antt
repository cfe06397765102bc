-- What a strict policy accepts, the lenient one accepts with the same packet.
use Rattle.std.proofs.Common.{ℕ, Bool, false, List, Ok, subst}
use Rattle.dcsctp_tlv.{specs.Frame.{lenient}, specs.Level.{MeansTrees}, proofs.Laws.{list_one}, proofs.Lenient.{list_looser}}
use Rattle.dcsctp_wire.{specs.declared.packet.sctp_packet.ChecksumPolicy.{ChecksumPolicy}, specs.Chunk.{ChunkTree, chunks}, specs.Packet.{PacketTree, IsAccepted, disabled, alternate, equal, body, MeansPacket, Answer}, proofs.ChunkRows.{chunks_lawful, chunks_looser}}

-- ---- chunks

-- What was built from bytes that a strict reader accepts is what they mean to it.
pub built_means : (strict : Bool) (bytes : List ℕ) (ts built : List ChunkTree)
    → MeansTrees (chunks strict) bytes ts → MeansTrees (chunks lenient) bytes built
    → MeansTrees (chunks strict) bytes built
built_means strict bytes ts built m n =
    subst (MeansTrees (chunks strict) bytes)
    (list_one (chunks lenient) (chunks_lawful lenient) bytes ts built
    (list_looser (chunks strict) (chunks lenient) (chunks_looser strict) bytes ts m) n) m

-- ---- packets

pub lenient_packet : (strict : Bool) (bytes : List ℕ) (p : PacketTree) → MeansPacket strict bytes p
    → MeansPacket lenient bytes p
lenient_packet strict bytes p m = record {
  header = m.header;
  chunks =
      list_looser (chunks strict) (chunks lenient) (chunks_looser strict) (body bytes)
      p.meaning.chunks m.chunks;
}

abbrev leniently : ChecksumPolicy → ChecksumPolicy
leniently policy = record policy { strict_padding = false }

same_decision : (policy : ChecksumPolicy) (field word : ℕ) → IsAccepted policy field word
    → IsAccepted (leniently policy) field word
same_decision policy field word (disabled off) = disabled off
same_decision policy field word (alternate other zero) = alternate other zero
same_decision policy field word (equal is) = equal is

pub lenient_answer : (bytes : List ℕ) (word : ℕ) (policy : ChecksumPolicy) (p : PacketTree)
    → Answer bytes word policy (Ok p) → Answer bytes word (leniently policy) (Ok p)
lenient_answer bytes word policy p m = (
  record { size = m.0.size; accepted = same_decision policy _ word m.0.accepted },
  lenient_packet policy.strict_padding bytes p m.1,
)
