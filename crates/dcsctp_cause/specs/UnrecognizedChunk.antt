-- Unrecognized Chunk Type (RFC 9260 section 3.3.10.6): code 6; the value is the chunk that wasn't
-- recognized, any bytes.
use Rattle.std.specs.Prelude.{ℕ, List, Result, Ok, length, codes}
use Rattle.dcsctp_tlv.specs.Kind.{Fault, AreBytes, Format, sized_tlv, length-solid, Kind, plain_kind, Varied}
use Rattle.dcsctp_cause.specs.declared.unrecognized_chunk_error_cause.UnrecognizedChunkErrorCause.{UnrecognizedChunkErrorCause}

abbrev pub read : List ℕ → Result (List ℕ) Fault
read value = Ok value

abbrev pub format : List ℕ → Format
format chunk = record {
  tlv = sized_tlv 6 (length chunk) chunk;
  sized = length-solid chunk;
  text = codes "Unrecognized Chunk Type";
  IsInWidth = AreBytes chunk;
  IsWellFormed = Unit {0};
}

abbrev pub view : UnrecognizedChunkErrorCause → List ℕ
view c = c.chunk.items

abbrev pub kind : Kind
kind = plain_kind 6 Varied (λ flags. read) format
