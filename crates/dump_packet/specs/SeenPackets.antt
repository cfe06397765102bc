-- A packet of a capture, as it is counted, and the addresses between which it went.
use Rattle.std.specs.Prelude.{◌≡◌, ℕ, Bool, List, Option, Some, None}
use Rattle.std.specs.Net.Addr.{IsV4And, IsV6And, ipv4_octets, ipv6_segments, segments_of}
use Rattle.std.specs.declared.net.ip_addr.IpAddr.{IpAddr}
use Rattle.dcsctp_borrowed.specs.Part.{Part, after}
use Rattle.dcsctp_borrowed.specs.declared.checksum.Checksum.{Checksum}
use Rattle.dump_capture.specs.declared.frame.Addresses.{Addresses}
use Rattle.dump_capture.specs.declared.frame.Addresses.TheVariants.{V4, V6}
use Rattle.dump_packet.specs.declared.packet_number.PacketNumber.{PacketNumber}
use Rattle.dump_packet.specs.declared.seen_packet.SeenPacket.{SeenPacket}

pub record Packet : Type 0 where
  pub number : PacketNumber
  pub checksum : Checksum
  pub is_refused : Bool
  -- what follows the common header (RFC 9260 section 3)
  pub chunks : Part

abbrev pub packet_of : SeenPacket → Packet
packet_of p = record {
  number = p.number;
  checksum = p.checksum;
  is_refused = p.is_refused;
  chunks = after 12 (record { bytes = p.found.packet.now; size = p.found.length });
}

abbrev pub IsIpv4 : List ℕ → Option IpAddr → Type 0
IsIpv4 octets (Some a) = IsV4And a (λ ip. ipv4_octets ip ≡ octets)
IsIpv4 octets None = ⊥

abbrev pub IsIpv6 : List ℕ → Option IpAddr → Type 0
IsIpv6 octets (Some a) = IsV6And a (λ ip. ipv6_segments ip ≡ segments_of octets)
IsIpv6 octets None = ⊥

-- the source address and the destination address, if packets have them
abbrev pub AreAddresses : Option Addresses → Option IpAddr → Option IpAddr → Type 0
AreAddresses (Some (V4 source destination)) from to = IsIpv4 source from × IsIpv4 destination to
AreAddresses (Some (V6 source destination)) from to = IsIpv6 source from × IsIpv6 destination to
AreAddresses None from to = (from ≡ None) × (to ≡ None)
