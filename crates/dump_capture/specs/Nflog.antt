-- NFLOG: what Linux's packet filter logged of a packet (the registry of
-- draft-ietf-opsawg-pcaplinktype, LINKTYPE_NFLOG).
use Rattle.std.specs.Prelude.{◌+◌, ◌*◌, ◌/◌, ◌%◌, ◌==◌, ℕ, not, ◌||◌, nat_lt, if◌then◌else◌, List, Result, Ok, Err, length, drop}
use Rattle.std.specs.Int.{w16}
use Rattle.dump_capture.specs.Number.{byte_at, number_in}
use Rattle.dump_capture.specs.Payload.{Payload, past, cut_to}
use Rattle.dump_capture.specs.declared.frame.NoPacket.{NoPacket}
use Rattle.dump_capture.specs.declared.frame.NoPacket.TheVariants.{Cut, Malformed, Other}
use Rattle.dump_capture.specs.declared.payload.Protocol.TheVariants.{Ip, NflogAttribute}
use Rattle.dump_capture.specs.declared.pcap.ByteOrder.{ByteOrder}
use Rattle.dump_capture.specs.declared.pcap.ByteOrder.TheVariants.{BigEndian, LittleEndian}

-- Attributes are in the order of the machine that captured, which nothing says. Types are below 64,
-- and two flags are above them: so a type's high byte has nothing in its low six bits.
abbrev pub attribute_order : List ℕ → ByteOrder
attribute_order bytes = if byte_at 2 bytes % 64 == 0 then BigEndian else LittleEndian

-- in bytes, with its header of 4, but without the padding to a multiple of 4
abbrev pub attribute_length : List ℕ → ℕ
attribute_length bytes = number_in (attribute_order bytes) w16 bytes

abbrev pub attribute_type : List ℕ → ℕ
attribute_type bytes = number_in (attribute_order bytes) w16 (drop 2 bytes)

-- type 9 is the packet; others come before it
unfoldable pub attribute : Payload → Result Payload NoPacket
attribute p =
    if nat_lt p.size 4 then Err Other else
    if nat_lt (length p.bytes) 4 then Err Cut else
    if nat_lt (attribute_length p.bytes) 4 then Err Malformed else
    if nat_lt p.size (attribute_length p.bytes) then Err Malformed else
    if attribute_type p.bytes == 9
    then Ok (past 4 Ip (cut_to (attribute_length p.bytes) p)) else
    Ok (past (4 * ((attribute_length p.bytes + 3) / 4)) NflogAttribute p)

-- a header of 4 bytes, the family and the version, which is 0; Linux's families 2 and 10 are IPv4
-- and IPv6
unfoldable pub nflog : Payload → Result Payload NoPacket
nflog p =
    if nat_lt (length p.bytes) 4 then Err Cut else
    if not (byte_at 1 p.bytes == 0) then Err Other else
    if not (byte_at 0 p.bytes == 2 || byte_at 0 p.bytes == 10) then Err Other else
    Ok (past 4 NflogAttribute p)
