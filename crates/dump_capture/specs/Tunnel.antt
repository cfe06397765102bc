-- Tunnels: IP in IP, GRE, and those in UDP.
use Rattle.std.specs.Prelude.{◌==◌, ℕ, Bool, false, ◌&&◌, ◌||◌, nat_lt, if◌then◌else◌, List, Result, Ok, Err, length}
use Rattle.dump_capture.specs.Payload.{Payload, past, cut_to}
use Rattle.dump_capture.specs.Udp.{udp_length, destination_port, is_on_port}
use Rattle.dump_capture.specs.Gre.{gre}
use Rattle.dump_capture.specs.Vxlan.{vxlan}
use Rattle.dump_capture.specs.Geneve.{geneve}
use Rattle.dump_capture.specs.Gtp.{gtp}
use Rattle.dump_capture.specs.declared.frame.NoPacket.{NoPacket}
use Rattle.dump_capture.specs.declared.frame.NoPacket.TheVariants.{Cut, Malformed, Other}
use Rattle.dump_capture.specs.declared.payload.Protocol.{Protocol}
use Rattle.dump_capture.specs.declared.payload.Protocol.TheVariants.{EtherType, Number}

-- the destination ports of GTP-U (3GPP TS 29.281 section 4.4.2), VXLAN (RFC 7348 section 5) and
-- Geneve (RFC 8926 section 3.3)
abbrev pub is_tunnel_port : ℕ → Bool
is_tunnel_port port = port == 2152 || port == 4789 || port == 6081

-- a datagram to one of these ports, unless SCTP in UDP is on this one
unfoldable pub is_udp_tunnel : ℕ → List ℕ → Bool
is_udp_tunnel port bytes =
    if nat_lt (length bytes) 8 then false else
    if is_on_port port bytes then false else
    is_tunnel_port (destination_port bytes)

-- IPv4 in IP (RFC 2003 section 3.1, RFC 2473 section 3), IPv6 in IP (RFC 4213 section 3.5, RFC
-- 2473), GRE (RFC 2784 section 4), or UDP
abbrev pub is_tunnel_as : Protocol → ℕ → List ℕ → Bool
is_tunnel_as (Number number) port bytes =
    number == 4 || number == 41 || number == 47 || number == 17 && is_udp_tunnel port bytes
is_tunnel_as _ port bytes = false

-- the payload is a tunnel's: what it carries is a packet or a frame again
abbrev pub is_tunnel : ℕ → Payload → Bool
is_tunnel port p = is_tunnel_as p.protocol port p.bytes

unfoldable pub to_port : ℕ → Payload → Result Payload NoPacket
to_port port p =
    if port == 2152 then gtp p else
    if port == 4789 then vxlan p else
    if port == 6081 then geneve p else
    Err Other

-- as long as the header says
unfoldable pub udp_tunnel : Payload → Result Payload NoPacket
udp_tunnel p =
    if nat_lt p.size 8 then Err Malformed else
    if nat_lt (length p.bytes) 8 then Err Cut else
    if nat_lt (udp_length p.bytes) 8 || nat_lt p.size (udp_length p.bytes) then Err Malformed else
    to_port (destination_port p.bytes) (past 8 p.protocol (cut_to (udp_length p.bytes) p))

abbrev pub of_tunnel : ℕ → Payload → Result Payload NoPacket
of_tunnel number p =
    if number == 4 then Ok (past 0 (EtherType 0x0800) p) else
    if number == 41 then Ok (past 0 (EtherType 0x86dd) p) else
    if number == 47 then gre p else
    if number == 17 then udp_tunnel p else
    Err Other

abbrev pub past_tunnel_as : Protocol → Payload → Result Payload NoPacket
past_tunnel_as (Number number) p = of_tunnel number p
past_tunnel_as _ p = Err Other

-- what a tunnel carries, without what follows the tunnel's payload in the frame
abbrev pub past_tunnel : Payload → Result Payload NoPacket
past_tunnel p = past_tunnel_as p.protocol (cut_to p.size p)
