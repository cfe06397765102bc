-- ERSPAN: a frame of Ethernet that was copied, in GRE (draft-foschiano-erspan-03). Type I has no
-- header.
use Rattle.std.specs.Prelude.{◌+◌, ◌*◌, ◌/◌, ◌%◌, ◌==◌, ℕ, nat_lt, if◌then◌else◌, List, Result, Ok, Err, length}
use Rattle.dump_capture.specs.Number.{byte_at}
use Rattle.dump_capture.specs.Payload.{Payload, past}
use Rattle.dump_capture.specs.declared.frame.NoPacket.{NoPacket}
use Rattle.dump_capture.specs.declared.frame.NoPacket.TheVariants.{Cut, Malformed, Other}
use Rattle.dump_capture.specs.declared.payload.Protocol.TheVariants.{Link, Ip}

-- of type III: 12 bytes, and a subheader of 8 if the flag O, the last bit, says so
abbrev pub type_3_size : List ℕ → ℕ
type_3_size bytes = 12 + 8 * (byte_at 11 bytes % 2)

-- the field FT, of five bits
abbrev pub frame_type : List ℕ → ℕ
frame_type bytes = byte_at 10 bytes / 4 % 32

-- what FT says: 0 is Ethernet, 2 is IP
abbrev pub of_frame_type : ℕ → ℕ → Payload → Result Payload NoPacket
of_frame_type type n p =
    if type == 0 then Ok (past n (Link 1) p) else
    if type == 2 then Ok (past n Ip p) else
    Err Other

unfoldable pub type_3 : Payload → Result Payload NoPacket
type_3 p =
    if nat_lt p.size 12 then Err Malformed else
    if nat_lt (length p.bytes) 12 then Err Cut else
    if nat_lt p.size (type_3_size p.bytes) then Err Malformed else
    if nat_lt (length p.bytes) (type_3_size p.bytes) then Err Cut else
    of_frame_type (frame_type p.bytes) (type_3_size p.bytes) p

-- The version, in the high four bits, is 1 in a header of type II, which has 8 bytes, and 2 in one
-- of type III.
unfoldable pub erspan : Payload → Result Payload NoPacket
erspan p =
    if nat_lt p.size 8 then Err Malformed else
    if nat_lt (length p.bytes) 8 then Err Cut else
    if byte_at 0 p.bytes / 16 == 1 then Ok (past 8 (Link 1) p) else
    if byte_at 0 p.bytes / 16 == 2 then type_3 p else
    Err Other
