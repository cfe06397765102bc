-- The SCTP packet in a frame: after the headers of the link and of IP, and after those of tunnels,
-- or by itself; in IP as protocol 132, or in UDP (RFC 6951). A header says what follows it, and the
-- headers are read one after the other.
use Rattle.std.specs.Prelude.{◌+◌, ◌-◌, ◌*◌, ◌/◌, ◌%◌, ◌^◌, ◌==◌, ℕ, Bool, true, ◌&&◌, ◌||◌, not, nat_lt, if◌then◌else◌, List, Option, Some, None, Result, Ok, Err, length, take, drop}
use Rattle.std.specs.Int.{w32, from_be_bytes, from_le_bytes}
use Rattle.dump_capture.specs.Number.{byte_at, number16}
use Rattle.dump_capture.specs.Payload.{Payload, ◌>>=◌, past, after_steps}
use Rattle.dump_capture.specs.Udp.{udp_length}
use Rattle.dump_capture.specs.Ppp.{framed_ppp, in_session}
use Rattle.dump_capture.specs.Nflog.{nflog, attribute}
use Rattle.dump_capture.specs.Gtp.{gtp_extension}
use Rattle.dump_capture.specs.Tunnel.{is_tunnel, past_tunnel}
use Rattle.dump_capture.specs.declared.frame.Addresses.{Addresses}
use Rattle.dump_capture.specs.declared.frame.Addresses.TheVariants.{V4, V6}
use Rattle.dump_capture.specs.declared.frame.UdpPorts.{UdpPorts}
use Rattle.dump_capture.specs.declared.frame.NoPacket.{NoPacket}
use Rattle.dump_capture.specs.declared.frame.NoPacket.TheVariants.{Fragment, Cut, Malformed, LinkType, Other}
use Rattle.dump_capture.specs.declared.payload.Protocol.{Protocol}
use Rattle.dump_capture.specs.declared.payload.Protocol.TheVariants.{Link, EtherType, Ip, Number, GtpExtension, NflogAttribute}

-- The packet, and what the headers before it say of where it comes from. It had `length` bytes, of
-- which these were captured, its first.
pub record Packet : Type 0 where
  pub addresses : Option Addresses
  pub udp_ports : Option UdpPorts
  pub length : ℕ
  pub bytes : List ℕ

-- ---- transport

-- a packet of this size, as far as it was captured
abbrev pub packet : Option Addresses → Option UdpPorts → ℕ → List ℕ → Packet
packet addresses ports size bytes =
    record { addresses = addresses; udp_ports = ports; length = size; bytes = take size bytes }

abbrev pub udp_ports : List ℕ → UdpPorts
udp_ports bytes = record { source = number16 bytes; destination = number16 (drop 2 bytes) }

-- SCTP in UDP: one of the ports is this one, 9899 if no other was agreed on (RFC 6951 section 5.1)
unfoldable pub in_udp : ℕ → Payload → Result Packet NoPacket
in_udp port p =
    if nat_lt p.size 8 then Err Malformed else
    if nat_lt (length p.bytes) 8 then Err Cut else
    if not (number16 p.bytes == port || number16 (drop 2 p.bytes) == port) then Err Other else
    if nat_lt (udp_length p.bytes) 8 || nat_lt p.size (udp_length p.bytes) then Err Malformed else
    Ok (packet p.addresses (Some (udp_ports p.bytes)) (udp_length p.bytes - 8) (drop 8 p.bytes))

abbrev pub carried_as : ℕ → Protocol → Payload → Result Packet NoPacket
carried_as port (Number number) p =
    if number == 132 then Ok (packet p.addresses None p.size p.bytes) else
    if number == 17 then in_udp port p else
    Err Other
carried_as port _ p = Err Other

-- the packet that is after the headers of the link and of IP
abbrev pub carried : ℕ → Payload → Result Packet NoPacket
carried port p = carried_as port p.protocol p

-- ---- IP

abbrev pub ip_version : List ℕ → ℕ
ip_version bytes = byte_at 0 bytes / 16

-- in bytes; the field counts words of four (RFC 791 section 3.1)
abbrev pub ipv4_header_size : List ℕ → ℕ
ipv4_header_size bytes = 4 * (byte_at 0 bytes % 16)

-- The packet's length with its header (RFC 791 section 3.1). It is 0 where the sending host leaves
-- the cutting into segments to its network card: then the packet is all that follows in the frame.
abbrev pub ipv4_length : Payload → ℕ
ipv4_length p =
    if number16 (drop 2 p.bytes) == 0 then p.size else
    number16 (drop 2 p.bytes)

-- more fragments follow, or some come before: the flag MF, or an offset in the low 13 bits
abbrev pub is_ipv4_fragment : List ℕ → Bool
is_ipv4_fragment bytes = not (number16 (drop 6 bytes) % 2 ^ 14 == 0)

abbrev pub ipv4_addresses : List ℕ → Addresses
ipv4_addresses bytes = V4 (take 4 (drop 12 bytes)) (take 4 (drop 16 bytes))

-- the protocols in IPv4 that may carry SCTP: SCTP itself, UDP, the authentication header, IPv4,
-- IPv6 and GRE
unfoldable pub may_carry_sctp : ℕ → Bool
may_carry_sctp number =
    number == 132 || number == 17 || number == 51 || number == 4 || number == 41 || number == 47

-- These are read, and ICMP (protocol 1), which may quote SCTP, but in a fragment.
abbrev pub is_read : List ℕ → Bool
is_read bytes =
    may_carry_sctp (byte_at 9 bytes) || byte_at 9 bytes == 1 && not (is_ipv4_fragment bytes)

unfoldable pub ipv4 : Payload → Result Payload NoPacket
ipv4 p =
    if nat_lt (length p.bytes) 20 then Err Cut else
    if not (ip_version p.bytes == 4) then Err Malformed else
    if not (is_read p.bytes) then Err Other else
    if nat_lt (ipv4_header_size p.bytes) 20 then Err Malformed else
    if nat_lt (ipv4_length p) (ipv4_header_size p.bytes) then Err Malformed else
    if is_ipv4_fragment p.bytes then Err Fragment else
    if nat_lt (length p.bytes) (ipv4_header_size p.bytes) then Err Cut else
    Ok (record {
      addresses = Some (ipv4_addresses p.bytes);
      protocol = Number (byte_at 9 p.bytes);
      size = ipv4_length p - ipv4_header_size p.bytes;
      bytes = drop (ipv4_header_size p.bytes) p.bytes;
    })

abbrev pub ipv6_addresses : List ℕ → Addresses
ipv6_addresses bytes = V6 (take 16 (drop 8 bytes)) (take 16 (drop 24 bytes))

-- a header of 40 bytes, whose payload length counts the extension headers (RFC 8200 section 3)
unfoldable pub ipv6 : Payload → Result Payload NoPacket
ipv6 p =
    if nat_lt (length p.bytes) 40 then Err Cut else
    if not (ip_version p.bytes == 6) then Err Malformed else
    Ok (record {
      addresses = Some (ipv6_addresses p.bytes);
      protocol = Number (byte_at 6 p.bytes);
      size = number16 (drop 4 p.bytes);
      bytes = drop 40 p.bytes;
    })

-- the version says which
unfoldable pub ip : Payload → Result Payload NoPacket
ip p =
    if length p.bytes == 0 then Err Cut else
    if ip_version p.bytes == 4 then ipv4 p else
    if ip_version p.bytes == 6 then ipv6 p else
    Err Other

-- Hop-by-hop options, routing, fragment and destination options (RFC 8200 sections 4.3 to 4.6), the
-- authentication header (RFC 4302 section 2) and Shim6's (RFC 5533 section 5.2). The first byte of
-- each is the next protocol.
abbrev pub is_extension : ℕ → Bool
is_extension number =
    number == 0 || number == 43 || number == 44 || number == 51 || number == 60 || number == 140

-- The size of an extension header. The second byte counts words of eight bytes after the first, or
-- of an authentication header words of four bytes after the second (RFC 4302 section 2.2), and that
-- one has three at least. A fragment header has 8 bytes.
abbrev pub extension_size : ℕ → List ℕ → ℕ
extension_size number bytes =
    if number == 44 then 8 else
    if number == 51 then 4 * (byte_at 1 bytes + 2) else
    8 * (byte_at 1 bytes + 1)

-- The offset, in the high 13 bits, or the flag M, the lowest (RFC 8200 section 4.5). A packet in
-- one fragment is read as whole.
abbrev pub is_ipv6_fragment : List ℕ → Bool
is_ipv6_fragment bytes =
    not (number16 (drop 2 bytes) / 8 == 0) || not (number16 (drop 2 bytes) % 2 == 0)

unfoldable pub extension : ℕ → Payload → Result Payload NoPacket
extension number p =
    if nat_lt p.size 8 then Err Malformed else
    if nat_lt (length p.bytes) 8 then Err Cut else
    if nat_lt p.size (extension_size number p.bytes) then Err Malformed else
    if number == 51 && byte_at 1 p.bytes == 0 then Err Malformed else
    if number == 44 && is_ipv6_fragment p.bytes then Err Fragment else
    if nat_lt (length p.bytes) (extension_size number p.bytes) then Err Cut else
    Ok (past (extension_size number p.bytes) (Number (byte_at 0 p.bytes)) p)

-- ---- links

-- a header of this size that has the type of what follows it at this offset
unfoldable pub typed : ℕ → ℕ → Payload → Result Payload NoPacket
typed offset size p =
    if nat_lt (length p.bytes) size then Err Cut else
    Ok (past size (EtherType (number16 (drop offset p.bytes))) p)

-- an entry of a label stack; IP follows the one at the bottom (RFC 3032 section 2.1)
unfoldable pub label : ℕ → Payload → Result Payload NoPacket
label type p =
    if nat_lt (length p.bytes) 4 then Err Cut else
    Ok (past 4 (if byte_at 2 p.bytes % 2 == 1 then Ip else EtherType type) p)

-- By the type of what a frame carries (IEEE 802.3 clause 3.2.6). A tag is two bytes before a type
-- (IEEE 802.1Q clause 9): of a customer, of a provider, or of a provider before the standard. Type
-- 0x6558 is a frame of Ethernet (RFC 8926 section 3.4, RFC 7637 section 3.2).
unfoldable pub of_type : ℕ → Payload → Result Payload NoPacket
of_type type p =
    if type == 0x0800 then ipv4 p else
    if type == 0x86dd then ipv6 p else
    if type == 0x8100 || type == 0x88a8 || type == 0x9100 then typed 2 4 p else
    if type == 0x8847 || type == 0x8848 then label type p else
    if type == 0x8864 then in_session p else
    if type == 0x6558 then typed 12 14 p else
    Err Other

-- the families of IP: 2 is IPv4 on every machine; 24, 28 and 30 are IPv6 on some
abbrev pub is_ip_family : ℕ → Bool
is_ip_family family = family == 2 || family == 24 || family == 28 || family == 30

-- the family in four bytes, of which nothing says the order
unfoldable pub loopback : Payload → Result Payload NoPacket
loopback p =
    if nat_lt (length p.bytes) 4 then Err Cut else
    if is_ip_family (from_be_bytes w32 (take 4 p.bytes))
    || is_ip_family (from_le_bytes w32 (take 4 p.bytes))
    then Ok (past 4 Ip p) else
    Err Other

unfoldable pub hdlc : Payload → Result Payload NoPacket
hdlc p =
    if length p.bytes == 0 then Err Cut else
    if byte_at 0 p.bytes == 0x0f || byte_at 0 p.bytes == 0x8f then typed 2 4 p else
    framed_ppp p

-- A frame of this link type (the registry of draft-ietf-opsawg-pcaplinktype): Ethernet, whose type
-- is after two addresses of six bytes; IP without a header of the link, which is 12 or 14 in files
-- of some BSDs; Linux's cooked header of either version; BSD's and OpenBSD's loopback; PPP, or in
-- 50 also Cisco's framing, whose first byte is 0x0f or 0x8f, and whose type is after two bytes (RFC
-- 1547 section 4.3.1); NFLOG; IPv4; IPv6; and SCTP.
unfoldable pub on_link : ℕ → Payload → Result Payload NoPacket
on_link link p =
    if link == 1 then typed 12 14 p else
    if link == 12 || link == 14 || link == 101 then ip p else
    if link == 113 then typed 14 16 p else
    if link == 276 then typed 0 20 p else
    if link == 0 || link == 108 then loopback p else
    if link == 9 then framed_ppp p else
    if link == 50 then hdlc p else
    if link == 239 then nflog p else
    if link == 228 then ipv4 p else
    if link == 229 then ipv6 p else
    if link == 248 then Ok (past 0 (Number 132) p) else
    Err LinkType

-- the link types that frames are read of
abbrev pub is_known_link : ℕ → Bool
is_known_link link =
    link == 0 || link == 1 || link == 9 || link == 12 || link == 14 || link == 50 || link == 101
    || link == 108 || link == 113 || link == 228 || link == 229 || link == 239 || link == 248
    || link == 276

-- ---- the packet in a frame

-- a header of the link, of IP or in a tunnel, and what follows it
abbrev pub is_header : Protocol → Bool
is_header (Number number) = is_extension number
is_header _ = true

abbrev pub begins_with_header : Payload → Bool
begins_with_header p = is_header p.protocol

abbrev pub past_first : Protocol → Payload → Result Payload NoPacket
past_first (Link link) p = on_link link p
past_first (EtherType type) p = of_type type p
past_first Ip p = ip p
past_first (Number number) p = extension number p
past_first GtpExtension p = gtp_extension p
past_first NflogAttribute p = attribute p

-- the payload after the header at its front
abbrev pub past_header : Payload → Result Payload NoPacket
past_header p = past_first p.protocol p

-- the payload after n headers at most
abbrev pub past_headers : ℕ → Payload → Result Payload NoPacket
past_headers n p = after_steps begins_with_header past_header n p

-- the payload after a tunnel, and after the headers in it
abbrev pub through_tunnel : Payload → Result Payload NoPacket
through_tunnel p = past_tunnel p >>= past_headers (2 ^ 16)

-- the payload after n tunnels at most, where SCTP in UDP is on this port
abbrev pub past_tunnels : ℕ → ℕ → Payload → Result Payload NoPacket
past_tunnels n port p = after_steps (is_tunnel port) through_tunnel n p

-- a frame of this link type, with its length on the link
abbrev pub in_frame : ℕ → ℕ → List ℕ → Payload
in_frame link original_length frame =
    record { addresses = None; protocol = Link link; size = original_length; bytes = frame }

-- what is after all headers and tunnels of a frame, four tunnels at most
abbrev pub innermost : ℕ → ℕ → ℕ → List ℕ → Result Payload NoPacket
innermost port link original_length frame =
    past_headers (2 ^ 16) (in_frame link original_length frame) >>= past_tunnels 4 port

-- The packet in a frame, in UDP if it is on this port, and in four tunnels at most. At most 65,536
-- headers are read of a frame, and of what each tunnel carries; a frame of 262,144 bytes has no
-- more: each has four bytes at least.
unfoldable pub packet_in : ℕ → ℕ → ℕ → List ℕ → Result Packet NoPacket
packet_in port link original_length frame =
    innermost port link original_length frame >>= carried port
