-- The error message of ICMP (RFC 792) or ICMPv6 (RFC 4443) in a frame that quotes an SCTP packet: the
-- packet's IP header, and the first bytes after it.
use Rattle.std.specs.Prelude.{◌-◌, ◌^◌, ◌==◌, ℕ, Bool, false, ◌&&◌, ◌||◌, not, nat_lt, if◌then◌else◌, List, Option, Some, None, Result, Ok, Err, length, take, drop}
use Rattle.std.specs.Int.{w32, from_be_bytes}
use Rattle.dump_capture.specs.Number.{byte_at, number16}
use Rattle.dump_capture.specs.Payload.{Payload, ◌>>=◌}
use Rattle.dump_capture.specs.Frame.{Packet, carried, past_headers, innermost}
use Rattle.dump_capture.specs.Found.{packet_of}
use Rattle.dump_capture.specs.declared.frame.Addresses.{Addresses}
use Rattle.dump_capture.specs.declared.frame.NoPacket.{NoPacket}
use Rattle.dump_capture.specs.declared.payload.Protocol.{Protocol}
use Rattle.dump_capture.specs.declared.payload.Protocol.TheVariants.{EtherType, Number}
use Rattle.dump_capture.specs.declared.icmp.IcmpError.{IcmpError}

-- The addresses of the IP packet that carries it, its type and its code, the MTU that it says, and
-- the packet that it quotes.
pub record Error : Type 0 where
  pub addresses : Addresses
  pub kind : ℕ
  pub code : ℕ
  pub mtu : ℕ
  pub quoted : Packet

-- Of ICMP (protocol 1) destination unreachable, time exceeded and parameter problem; of ICMPv6 (58)
-- these and packet too big (RFC 792, RFC 4443 section 3).
abbrev pub is_error : Protocol → ℕ → Bool
is_error (Number number) kind =
    number == 1 && (kind == 3 || kind == 11 || kind == 12)
    || number == 58 && (kind == 1 || kind == 2 || kind == 3 || kind == 4)
is_error _ kind = false

-- ICMP quotes a packet of IPv4, and ICMPv6 one of IPv6.
abbrev pub quoted_type : Protocol → ℕ
quoted_type (Number number) = if number == 1 then 0x0800 else 0x86dd
quoted_type _ = 0x86dd

-- The MTU in bytes: of ICMP's code "fragmentation needed" in the last two bytes of the header (RFC
-- 1191 section 4), of ICMPv6's "packet too big" in its last four (RFC 4443 section 3.2). Others say
-- none.
abbrev pub mtu : Protocol → List ℕ → ℕ
mtu (Number number) bytes =
    if number == 1 && byte_at 0 bytes == 3 && byte_at 1 bytes == 4 then number16 (drop 6 bytes) else
    if number == 58 && byte_at 0 bytes == 2 then from_be_bytes w32 (take 4 (drop 4 bytes)) else
    0
mtu _ bytes = 0

-- the packet behind a header of eight bytes
unfoldable pub quoted : ℕ → Payload → Result Packet NoPacket
quoted port p =
    past_headers (2 ^ 16) (record {
      addresses = None;
      protocol = EtherType (quoted_type p.protocol);
      size = p.size - 8;
      bytes = drop 8 (take p.size p.bytes);
    }) >>= carried port

-- at least eight bytes of SCTP: both ports and the verification tag (RFC 9260 section 3.1)
abbrev pub error_of : Addresses → Payload → Result Packet NoPacket → Option Error
error_of addresses p (Ok packet) =
    if nat_lt (length packet.bytes) 8 then None else
    Some (record {
      addresses = addresses;
      kind = byte_at 0 p.bytes;
      code = byte_at 1 p.bytes;
      mtu = mtu p.protocol p.bytes;
      quoted = packet;
    })
error_of addresses p (Err why) = None

abbrev pub error_by : ℕ → Option Addresses → Payload → Option Error
error_by port None p = None
error_by port (Some addresses) p =
    if nat_lt (length (take p.size p.bytes)) 8 then None else
    if not (is_error p.protocol (byte_at 0 p.bytes)) then None else
    error_of addresses p (quoted port p)

-- the message that a payload is
unfoldable pub error : ℕ → Payload → Option Error
error port p = error_by port p.addresses p

abbrev pub error_in : ℕ → Result Payload NoPacket → Option Error
error_in port (Ok p) = error port p
error_in port (Err why) = None

-- the message in a frame, where `packet_in` looks for a packet
unfoldable pub icmp_error_in : ℕ → ℕ → ℕ → List ℕ → Option Error
icmp_error_in port link original_length frame =
    error_in port (innermost port link original_length frame)

-- ---- the code's values

abbrev pub error_from : IcmpError → Error
error_from e = record {
  addresses = e.addresses;
  kind = e.kind;
  code = e.code;
  mtu = e.mtu;
  quoted = packet_of e.quoted;
}

abbrev pub error_result : Option IcmpError → Option Error
error_result None = None
error_result (Some e) = Some (error_from e)
