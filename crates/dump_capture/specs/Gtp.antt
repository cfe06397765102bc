-- GTP-U: a packet of a user in UDP (3GPP TS 29.281).
use Rattle.std.specs.Prelude.{◌+◌, ◌-◌, ◌*◌, ◌/◌, ◌%◌, ◌==◌, ℕ, Bool, ◌&&◌, not, nat_lt, if◌then◌else◌, List, Result, Ok, Err, length, drop}
use Rattle.dump_capture.specs.Number.{byte_at, number16}
use Rattle.dump_capture.specs.Payload.{Payload, past, cut_to}
use Rattle.dump_capture.specs.declared.frame.NoPacket.{NoPacket}
use Rattle.dump_capture.specs.declared.frame.NoPacket.TheVariants.{Cut, Malformed, Other}
use Rattle.dump_capture.specs.declared.payload.Protocol.{Protocol}
use Rattle.dump_capture.specs.declared.payload.Protocol.TheVariants.{Ip, GtpExtension}

-- version 1 and protocol type GTP, in the high four bits, and message type 255, a G-PDU (sections
-- 5.1 and 6.1)
abbrev pub is_user_packet : List ℕ → Bool
is_user_packet bytes = byte_at 0 bytes / 16 == 3 && byte_at 1 bytes == 255

-- The length of what follows the first 8 bytes, with the fields and extension headers that are
-- optional (section 5.1).
abbrev pub gtp_size : List ℕ → ℕ
gtp_size bytes = 8 + number16 (drop 2 bytes)

-- what this type of the next extension header says: 0 is none (section 5.2.1)
abbrev pub next_in_gtp : ℕ → Protocol
next_in_gtp type = if type == 0 then Ip else GtpExtension

-- where the flag E is set, the twelfth byte is the type of the first extension header (section 5.1)
abbrev pub first_in_gtp : List ℕ → Protocol
first_in_gtp bytes = if byte_at 0 bytes / 4 % 2 == 1 then next_in_gtp (byte_at 11 bytes) else Ip

-- where one of the flags E, S and PN is set, the header has four bytes more (section 5.1)
unfoldable pub in_gtp : Payload → Result Payload NoPacket
in_gtp p =
    if byte_at 0 p.bytes % 8 == 0 then Ok (past 8 Ip p) else
    if nat_lt p.size 12 then Err Malformed else
    if nat_lt (length p.bytes) 12 then Err Cut else
    Ok (past 12 (first_in_gtp p.bytes) p)

unfoldable pub gtp : Payload → Result Payload NoPacket
gtp p =
    if nat_lt p.size 8 then Err Malformed else
    if nat_lt (length p.bytes) 8 then Err Cut else
    if not (is_user_packet p.bytes) then Err Other else
    if nat_lt p.size (gtp_size p.bytes) then Err Malformed else
    in_gtp (cut_to (gtp_size p.bytes) p)

-- The first byte counts words of four bytes, and the last is the type of the next extension header
-- (section 5.2.1).
abbrev pub gtp_extension_size : List ℕ → ℕ
gtp_extension_size bytes = 4 * byte_at 0 bytes

unfoldable pub gtp_extension : Payload → Result Payload NoPacket
gtp_extension p =
    if p.size == 0 then Err Malformed else
    if length p.bytes == 0 then Err Cut else
    if byte_at 0 p.bytes == 0 then Err Malformed else
    if nat_lt p.size (gtp_extension_size p.bytes) then Err Malformed else
    if nat_lt (length p.bytes) (gtp_extension_size p.bytes) then Err Cut else
    Ok (past (gtp_extension_size p.bytes)
    (next_in_gtp (byte_at (gtp_extension_size p.bytes - 1) p.bytes)) p)
