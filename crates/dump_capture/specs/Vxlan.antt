-- VXLAN: a frame of Ethernet in UDP (RFC 7348).
use Rattle.std.specs.Prelude.{◌/◌, ◌%◌, ◌==◌, not, nat_lt, if◌then◌else◌, Result, Ok, Err, length}
use Rattle.dump_capture.specs.Number.{byte_at}
use Rattle.dump_capture.specs.Payload.{Payload, past}
use Rattle.dump_capture.specs.declared.frame.NoPacket.{NoPacket}
use Rattle.dump_capture.specs.declared.frame.NoPacket.TheVariants.{Cut, Malformed, Other}
use Rattle.dump_capture.specs.declared.payload.Protocol.TheVariants.{Link}

-- a header of 8 bytes, whose flag I is set; the others are ignored (section 5)
unfoldable pub vxlan : Payload → Result Payload NoPacket
vxlan p =
    if nat_lt p.size 8 then Err Malformed else
    if nat_lt (length p.bytes) 8 then Err Cut else
    if not (byte_at 0 p.bytes / 8 % 2 == 1) then Err Other else
    Ok (past 8 (Link 1) p)
