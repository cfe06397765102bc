-- Geneve: a payload of a type of Ethernet in UDP (RFC 8926).
use Rattle.std.specs.Prelude.{◌+◌, ◌*◌, ◌/◌, ◌%◌, ◌==◌, ℕ, not, nat_lt, if◌then◌else◌, List, Result, Ok, Err, length, drop}
use Rattle.dump_capture.specs.Number.{byte_at, number16}
use Rattle.dump_capture.specs.Payload.{Payload, past}
use Rattle.dump_capture.specs.declared.frame.NoPacket.{NoPacket}
use Rattle.dump_capture.specs.declared.frame.NoPacket.TheVariants.{Cut, Malformed, Other}
use Rattle.dump_capture.specs.declared.payload.Protocol.TheVariants.{EtherType}

-- 8 bytes, and the options, whose words of four bytes the low six bits count (section 3.4)
abbrev pub geneve_size : List ℕ → ℕ
geneve_size bytes = 8 + 4 * (byte_at 0 bytes % 64)

-- a header of version 0, the two high bits; the type is in bytes 2 and 3 (section 3.4)
unfoldable pub geneve : Payload → Result Payload NoPacket
geneve p =
    if nat_lt p.size 8 then Err Malformed else
    if nat_lt (length p.bytes) 8 then Err Cut else
    if not (byte_at 0 p.bytes / 64 == 0) then Err Other else
    if nat_lt p.size (geneve_size p.bytes) then Err Malformed else
    if nat_lt (length p.bytes) (geneve_size p.bytes) then Err Cut else
    Ok (past (geneve_size p.bytes) (EtherType (number16 (drop 2 p.bytes))) p)
