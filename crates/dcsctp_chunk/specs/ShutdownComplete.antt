-- SHUTDOWN COMPLETE (RFC 9260 section 3.3.13): type 14, an empty value; flag bit 0 says that the
-- tag is reflected, and the other bits are ignored.
use Rattle.std.specs.Prelude.{ℕ, Bool, List, [], ◌∷◌, ◌++◌, ◌==◌, Result, Ok, Err, if◌then◌else◌, length, codes, refl}
use Rattle.dcsctp_tlv.specs.Kind.{Fault, Length, Format, flagged_tlv, Kind, plain_kind, Fixed}
use Rattle.dcsctp_chunk.specs.{Flags.{is_set, flag_byte}, declared.shutdown_complete_chunk.ShutdownCompleteChunk.{ShutdownCompleteChunk}}

abbrev pub read : ℕ → List ℕ → Result Bool Fault
read flags value = if length value == 0 then Ok (is_set flags 0) else Err Length

abbrev pub format : Bool → Format
format tag_reflected = record {
  tlv = flagged_tlv 14 (flag_byte (tag_reflected ∷ [])) 0 [];
  sized = refl;
  text =
      codes "SHUTDOWN-COMPLETE, tag_reflected="
      ++ (if tag_reflected then codes "true" else codes "false");
  IsInWidth = Unit {0};
  IsWellFormed = Unit {0};
}

abbrev pub view : ShutdownCompleteChunk → Bool
view c = c.tag_reflected

abbrev pub kind : Kind
kind = plain_kind 14 Fixed read format
