-- SHUTDOWN (RFC 9260 section 3.3.8): type 7, flags ignored; the value is the cumulative TSN, four
-- bytes.
use Rattle.std.specs.{Prelude.{ℕ, ◌<◌, ◌^◌, List, ◌++◌, ◌==◌, Result, Ok, Err, if◌then◌else◌, length, codes, refl}, Fmt.{decimal}, Int.{w32, to_be_bytes}}
use Rattle.dcsctp_tlv.specs.Kind.{Fault, Length, number32, Format, flagged_tlv, Kind, plain_kind, Fixed}
use Rattle.dcsctp_chunk.specs.declared.shutdown_chunk.ShutdownChunk.{ShutdownChunk}

abbrev pub read : List ℕ → Result ℕ Fault
read value = if length value == 4 then Ok (number32 value) else Err Length

-- the text has no comma, unlike the others
abbrev pub format : ℕ → Format
format tsn = record {
  tlv = flagged_tlv 7 0 4 (to_be_bytes w32 tsn);
  sized = refl;
  text = codes "SHUTDOWN cumulative_tsn_ack=" ++ decimal tsn;
  IsInWidth = tsn < 2 ^ 32;
  IsWellFormed = Unit {0};
}

abbrev pub view : ShutdownChunk → ℕ
view c = c.cumulative_tsn_ack.0

abbrev pub kind : Kind
kind = plain_kind 7 Fixed (λ flags. read) format
