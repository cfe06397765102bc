-- The tunnels that a packet is in, outermost first: of each its kind, the addresses of the IP
-- header that carries it, and its identifier.
use Rattle.std.specs.Prelude.{◌+◌, ◌*◌, ◌/◌, ◌%◌, ◌^◌, ◌==◌, ℕ, zero, suc, Bool, ◌||◌, nat_lt, if◌then◌else◌, List, [], ◌∷◌, Option, Some, None, option_map, Result, Ok, Err, length, take, drop}
use Rattle.std.specs.Int.{w32, from_be_bytes}
use Rattle.dump_capture.specs.Number.{number16}
use Rattle.dump_capture.specs.Payload.{Payload}
use Rattle.dump_capture.specs.Udp.{destination_port}
use Rattle.dump_capture.specs.Gre.{has_checksum, has_key, has_sequence_number, gre_size}
use Rattle.dump_capture.specs.Tunnel.{is_tunnel}
use Rattle.dump_capture.specs.Frame.{past_headers, through_tunnel, in_frame}
use Rattle.dump_capture.specs.declared.frame.NoPacket.{NoPacket}
use Rattle.dump_capture.specs.declared.payload.Protocol.{Protocol}
use Rattle.dump_capture.specs.declared.payload.Protocol.TheVariants.{Number}
use Rattle.dump_capture.specs.declared.tunnels.Tunnel.{Tunnel}
use Rattle.dump_capture.specs.declared.tunnels.TunnelKind.{TunnelKind}
use Rattle.dump_capture.specs.declared.tunnels.TunnelKind.TheVariants.{Ip, Gre, Erspan, Vxlan, Geneve, GtpU}

-- ---- kinds

-- the types of ERSPAN in GRE (draft-foschiano-erspan-03)
abbrev pub is_erspan : ℕ → Bool
is_erspan type = type == 0x88be || type == 0x22eb

abbrev pub kind_in_gre : ℕ → TunnelKind
kind_in_gre type = if is_erspan type then Erspan else Gre

-- the port that a tunnel's datagrams are sent to (TS 29.281 section 4.4.2, RFC 7348 section 5, and
-- of Geneve RFC 8926 section 3.3)
abbrev pub kind_to_port : ℕ → TunnelKind
kind_to_port port =
    if port == 2152 then GtpU else
    if port == 4789 then Vxlan else
    Geneve

-- GRE has a type, UDP a port, in bytes 2 and 3 of both headers; 4 and 41 are IP in IP
abbrev pub kind_as : Protocol → List ℕ → TunnelKind
kind_as (Number number) bytes =
    if number == 47 then kind_in_gre (number16 (drop 2 bytes)) else
    if number == 17 then kind_to_port (destination_port bytes) else
    Ip
kind_as _ bytes = Ip

-- ---- identifiers

-- the number of the first four bytes, if they were captured
abbrev pub number32 : List ℕ → Option ℕ
number32 bytes = if nat_lt (length bytes) 4 then None else Some (from_be_bytes w32 (take 4 bytes))

-- the key, after the checksum and the reserved field (RFC 2890 section 2)
abbrev pub gre_key : List ℕ → Option ℕ
gre_key bytes =
    if has_key bytes == 1 then number32 (drop (4 + 4 * has_checksum bytes) bytes) else None

-- the session ID, in the low 10 bits of the first four bytes of ERSPAN's header, which type I lacks
abbrev pub session_id : List ℕ → Option ℕ
session_id bytes =
    if number16 (drop 2 bytes) == 0x22eb || has_sequence_number bytes == 1
    then option_map (λ n. n % 2 ^ 10) (number32 (drop (gre_size bytes) bytes)) else
    None

-- the second four bytes of a header in UDP, whose own has 8 bytes
abbrev pub second_word : List ℕ → Option ℕ
second_word bytes = number32 (drop 12 bytes)

-- The VNI is the first three bytes of these (RFC 7348 section 5, RFC 8926 section 3.4), and the
-- TEID is all four (TS 29.281 section 5.1).
abbrev pub identifier : TunnelKind → List ℕ → Option ℕ
identifier Ip bytes = None
identifier Gre bytes = gre_key bytes
identifier Erspan bytes = session_id bytes
identifier Vxlan bytes = option_map (λ n. n / 2 ^ 8) (second_word bytes)
identifier Geneve bytes = option_map (λ n. n / 2 ^ 8) (second_word bytes)
identifier GtpU bytes = second_word bytes

-- ---- the tunnels of a frame

-- the tunnel whose payload of IP this is
abbrev pub tunnel_of : Payload → Tunnel
tunnel_of p = record {
  kind = kind_as p.protocol p.bytes;
  addresses = p.addresses;
  identifier = identifier (kind_as p.protocol p.bytes) p.bytes;
}

abbrev pub with_inner : Tunnel → Result Payload NoPacket → Option (Tunnel × Payload)
with_inner t (Ok q) = Some (t, q)
with_inner t (Err e) = None

-- The first tunnel, and the payload after it and after the headers in it, if these can be read.
-- With the IP header in it a tunnel has more than 8 bytes.
unfoldable pub first_tunnel : ℕ → Payload → Option (Tunnel × Payload)
first_tunnel port p =
    if nat_lt (length p.bytes) 8 then None else
    if is_tunnel port p then with_inner (tunnel_of p) (through_tunnel p) else
    None

abbrev pub and_those : (Payload → List Tunnel) → Option (Tunnel × Payload) → List Tunnel
and_those rest None = []
and_those rest (Some found) = found.0 ∷ rest found.1

-- the tunnels of a payload, n at most, where SCTP in UDP is on this port
unfoldable pub tunnels : ℕ → ℕ → Payload → List Tunnel
tunnels zero port p = []
tunnels (suc n) port p = and_those (tunnels n port) (first_tunnel port p)

abbrev pub tunnels_past : ℕ → Result Payload NoPacket → List Tunnel
tunnels_past port (Ok p) = tunnels 4 port p
tunnels_past port (Err e) = []

-- The tunnels through which `packet_in` reads a frame, in order. If it finds no packet, those
-- before the first fault.
unfoldable pub tunnels_in : ℕ → ℕ → ℕ → List ℕ → List Tunnel
tunnels_in port link original_length frame =
    tunnels_past port (past_headers (2 ^ 16) (in_frame link original_length frame))
