-- PPP (RFC 1661), alone, in HDLC-like framing (RFC 1662), and in a session of PPPoE (RFC 2516); and
-- Cisco's framing.
use Rattle.std.specs.Prelude.{◌%◌, ◌==◌, ℕ, ◌||◌, nat_lt, if◌then◌else◌, Result, Ok, Err, length}
use Rattle.dump_capture.specs.Number.{byte_at, number16}
use Rattle.dump_capture.specs.Payload.{Payload, past}
use Rattle.dump_capture.specs.declared.frame.NoPacket.{NoPacket}
use Rattle.dump_capture.specs.declared.frame.NoPacket.TheVariants.{Cut, Other}
use Rattle.dump_capture.specs.declared.payload.Protocol.TheVariants.{Ip}

-- what is after a protocol field of n bytes: IPv4 (RFC 1332 section 2.1) or IPv6 (RFC 5072 section
-- 2)
abbrev pub of_ppp : ℕ → ℕ → Payload → Result Payload NoPacket
of_ppp protocol n p =
    if protocol == 0x0021 || protocol == 0x0057 then Ok (past n Ip p) else
    Err Other

-- The protocol field has two bytes, of which the first is even and the last is odd (RFC 1661
-- section 2); or that last one alone, where the field is compressed (section 6.5).
unfoldable pub ppp : Payload → Result Payload NoPacket
ppp p =
    if length p.bytes == 0 then Err Cut else
    if byte_at 0 p.bytes % 2 == 1 then of_ppp (byte_at 0 p.bytes) 1 p else
    if nat_lt (length p.bytes) 2 then Err Cut else
    of_ppp (number16 p.bytes) 2 p

-- the address 0xff and the control byte 3 come first (RFC 1662 section 3.1), or neither, where they
-- are compressed (RFC 1661 section 6.6)
unfoldable pub framed_ppp : Payload → Result Payload NoPacket
framed_ppp p =
    if nat_lt (length p.bytes) 2 then Err Cut else
    if number16 p.bytes == 0xff03 then ppp (past 2 p.protocol p) else
    ppp p

-- a header of six bytes (RFC 2516 section 4), and PPP
unfoldable pub in_session : Payload → Result Payload NoPacket
in_session p =
    if nat_lt (length p.bytes) 6 then Err Cut else
    ppp (past 6 p.protocol p)
