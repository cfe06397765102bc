-- What the program's engine writes for a text or a failure.
use Rattle.std.specs.Prelude.{ℕ, List, codes, Result, Ok, Err, String, string_bytes}
use Rattle.std.specs.declared.alloc.Global.{Global}
use Rattle.sctp_show.specs.declared.failure.Failure.{Failure}
use Rattle.sctp_show.specs.declared.failure.Failure.TheVariants.{OutOfMemory, Read, TooLong, NotHexadecimal, Packet}
use Rattle.dcsctp_wire.specs.ChunkParseError.{ChunkParseError}
use Rattle.dcsctp_wire.specs.ChunkParseError.TheVariants as chunk_errors
use Rattle.dcsctp_wire.specs.declared.packet.sctp_packet.PacketParseError.{PacketParseError}
use Rattle.dcsctp_wire.specs.declared.packet.sctp_packet.PacketParseError.TheVariants as packet_errors

abbrev pub chunk_error_line : ChunkParseError → List ℕ
chunk_error_line chunk_errors.InvalidLength = codes "error: invalid chunk: length\n"
chunk_error_line chunk_errors.InvalidType = codes "error: invalid chunk: type\n"
chunk_error_line chunk_errors.InvalidPadding = codes "error: invalid chunk: padding\n"
chunk_error_line chunk_errors.InvalidValue = codes "error: invalid chunk: value\n"
chunk_error_line chunk_errors.OutOfMemory = codes "error: out of memory\n"

abbrev pub packet_error_line : PacketParseError → List ℕ
packet_error_line packet_errors.InvalidPacketSize = codes "error: invalid packet size\n"
packet_error_line packet_errors.InvalidChecksum = codes "error: invalid checksum\n"
packet_error_line packet_errors.InvalidChunkSize = codes "error: invalid chunk size\n"
packet_error_line (packet_errors.FailedParseChunk e) = chunk_error_line e

-- the failure's line
abbrev pub line_of : Failure → List ℕ
line_of OutOfMemory = codes "error: out of memory\n"
line_of Read = codes "error: read failed\n"
line_of TooLong = codes "error: input too long\n"
line_of NotHexadecimal = codes "error: not hexadecimal\n"
line_of (Packet e) = packet_error_line e

-- the output and the status
abbrev pub reply_of : Result (String Global) Failure → List ℕ × ℕ
reply_of (Ok text) = (string_bytes text, 0)
reply_of (Err failure) = (line_of failure, 1)
