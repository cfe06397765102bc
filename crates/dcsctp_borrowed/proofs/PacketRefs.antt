-- A packet that is read in its bytes: what refers to it.
use Rattle.std.proofs.Common.{◌≡◌, ℕ, List, Result, Ok, Err, sym, ap, ◌∙◌}
use Rattle.dcsctp_tlv.{specs.Number.{AreBytes}, specs.Frame.{lenient}, specs.Level.{MeansTrees}, specs.Reading.{Answers, Exactly}, proofs.Exact.{Single, exactly}}
use Rattle.dcsctp_wire.{specs.Chunk.{chunks}, specs.Packet.{PacketTree, Answer, body, packet_checking}, specs.declared.packet.sctp_packet.ChecksumPolicy.{ChecksumPolicy}, specs.declared.packet.sctp_packet.PacketParseError.{PacketParseError}, proofs.Lenient.{lenient_packet}, proofs.PacketChecks.{packet_checking_distinct, packet_single}}
use Rattle.dcsctp_borrowed.specs.{PacketRef.{reference, Referred, RefersTo}, declared.packet_ref.SctpPacketRef.{SctpPacketRef}}

-- ---- what refers to a packet

-- what a packet means, it means to a lenient reader
pub chunks_lent : (bytes : List ℕ) (word : ℕ) (policy : ChecksumPolicy) (p : PacketTree)
    → Answer bytes word policy (Ok p) → MeansTrees (chunks lenient) (body bytes) p.meaning.chunks
chunks_lent bytes word policy p answer =
    (lenient_packet policy.strict_padding bytes p answer.1).chunks

pub refers : (bytes : List ℕ) (word : ℕ) (policy : ChecksumPolicy) (p : PacketTree)
    → Answer bytes word policy (Ok p) → RefersTo (reference bytes) p
refers bytes word policy p answer = record {
  source = sym (ap (λ (q : PacketTree). q.meaning.source) answer.1.header);
  destination = sym (ap (λ (q : PacketTree). q.meaning.destination) answer.1.header);
  tag = sym (ap (λ (q : PacketTree). q.meaning.tag) answer.1.header);
  checksum = sym (ap (λ (q : PacketTree). q.checksum) answer.1.header);
  chunks = chunks_lent bytes word policy p answer;
}

module _ (bytes : List ℕ) (word : ℕ) (policy : ChecksumPolicy) (fits : AreBytes bytes) where
  single : Single (Answer bytes word policy)
  single = packet_single bytes word policy fits

  referred_single : Single (Referred bytes word policy)
  referred_single (Ok r) (Ok s) m n = ap Ok (m.1 ∙ sym n.1)
  referred_single (Ok r) (Err e) m f =
      absurd (let h : Ok m.0.0 ≡ Err e = single (Ok m.0.0) (Err e) m.0.1 f in cc)
  referred_single (Err e) (Ok r) f m =
      absurd (let h : Ok m.0.0 ≡ Err e = single (Ok m.0.0) (Err e) m.0.1 f in cc)
  referred_single (Err d) (Err e) f g =
      (let h : Err d ≡ Err e = single (Err d) (Err e) f g in let same : d ≡ e = cc in ap Err same)

  pub referred_exactly : (r : Result SctpPacketRef PacketParseError)
      → Answers packet_checking (λ (r : SctpPacketRef). r) (Referred bytes word policy) r
      → Exactly packet_checking (λ (r : SctpPacketRef). r) (Referred bytes word policy) r
  referred_exactly r a = exactly packet_checking packet_checking_distinct (λ r. r)
      (Referred bytes word policy) referred_single r a (λ e is none. absurd none)
