-- GRE: a payload of a type of Ethernet, in IP (RFC 2784), with a key and a sequence number
-- (RFC 2890).
use Rattle.std.specs.Prelude.{◌+◌, ◌*◌, ◌/◌, ◌%◌, ◌==◌, ℕ, Bool, not, ◌&&◌, ◌||◌, nat_lt, if◌then◌else◌, List, Result, Ok, Err, length, drop}
use Rattle.dump_capture.specs.Number.{byte_at, number16}
use Rattle.dump_capture.specs.Payload.{Payload, past}
use Rattle.dump_capture.specs.Erspan.{erspan}
use Rattle.dump_capture.specs.declared.frame.NoPacket.{NoPacket}
use Rattle.dump_capture.specs.declared.frame.NoPacket.TheVariants.{Cut, Malformed, Other}
use Rattle.dump_capture.specs.declared.payload.Protocol.TheVariants.{Link, EtherType}

-- a checksum and a reserved field, a key, and a sequence number follow the first four bytes: bits
-- 0, 2 and 3 (RFC 2784 section 2.2, RFC 2890 section 2)
abbrev pub has_checksum : List ℕ → ℕ
has_checksum bytes = byte_at 0 bytes / 128 % 2

abbrev pub has_key : List ℕ → ℕ
has_key bytes = byte_at 0 bytes / 32 % 2

abbrev pub has_sequence_number : List ℕ → ℕ
has_sequence_number bytes = byte_at 0 bytes / 16 % 2

-- each of these has four bytes
abbrev pub gre_size : List ℕ → ℕ
gre_size bytes = 4 + 4 * (has_checksum bytes + has_key bytes + has_sequence_number bytes)

-- Bits 1, 4 and 5 are 0, or the receiver discards it (RFC 2784 section 2.3; RFC 2890 gave a meaning
-- to bits 2 and 3); the version, in the last three bits, is 0 (section 2.3.1).
abbrev pub is_gre : List ℕ → Bool
is_gre bytes =
    byte_at 0 bytes / 64 % 2 == 0 && byte_at 0 bytes / 4 % 4 == 0 && byte_at 1 bytes % 8 == 0

-- What this type says (RFC 2784 section 2.4). ERSPAN's are 0x88be, of type II if there is a
-- sequence number and else of type I, and 0x22eb of type III (draft-foschiano-erspan-03).
abbrev pub in_gre : ℕ → Payload → Result Payload NoPacket
in_gre type p =
    if type == 0x22eb || type == 0x88be && has_sequence_number p.bytes == 1
    then erspan (past (gre_size p.bytes) p.protocol p) else
    if type == 0x88be then Ok (past (gre_size p.bytes) (Link 1) p) else
    Ok (past (gre_size p.bytes) (EtherType type) p)

unfoldable pub gre : Payload → Result Payload NoPacket
gre p =
    if nat_lt p.size 4 then Err Malformed else
    if nat_lt (length p.bytes) 4 then Err Cut else
    if not (is_gre p.bytes) then Err Other else
    if nat_lt p.size (gre_size p.bytes) then Err Malformed else
    if nat_lt (length p.bytes) (gre_size p.bytes) then Err Cut else
    in_gre (number16 (drop 2 p.bytes)) p
