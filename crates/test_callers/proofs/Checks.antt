-- What a check of packets says.
use Rattle.std.proofs.Common.{◌≡◌, ◌↔◌, ℕ, List, Result, Ok, Err, true, false, IsTrue, refl}
use Rattle.std.specs.Result.{is_ok}
use Rattle.dcsctp_wire.specs.Reading.{Exactly, Counted}
use Rattle.dcsctp_wire.specs.Account.{node_count}
use Rattle.dcsctp_wire.specs.Packet.{Answer, IsPacket, packet_checking}
use Rattle.dcsctp_wire.specs.declared.packet.sctp_packet.ChecksumPolicy.{ChecksumPolicy}
use Rattle.dcsctp_wire.specs.declared.packet.sctp_packet.PacketParseError.{PacketParseError}

-- it is good if and only if the bytes are a packet
pub is_good : (bytes : List ℕ) (word : ℕ) (policy : ChecksumPolicy)
    (result : Result ℕ PacketParseError)
    → Exactly packet_checking (λ (n : ℕ). n) (Counted (λ p. node_count p.meaning)
    (Answer bytes word policy)) result
    → IsTrue (is_ok result) ↔ IsPacket bytes word policy
is_good bytes word policy (Ok n) h = ((λ _. (h.answers.0, h.answers.1)), (λ _. refl))
is_good bytes word policy (Err e) h = (
  (λ good. absurd (let no : false ≡ true = good in cc)),
  (λ p. absurd (h.value (node_count p.0.meaning) (p.0, p.1, refl))),
)
