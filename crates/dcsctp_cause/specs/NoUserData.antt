-- No User Data (RFC 9260 section 3.3.10.9): code 9; the value is the TSN of the DATA chunk that
-- held no data, four bytes.
use Rattle.std.specs.{Prelude.{ℕ, ◌<◌, ◌^◌, List, ◌++◌, ◌==◌, Result, Ok, Err, if◌then◌else◌, length, codes, refl}, Fmt.{decimal}, Int.{w32, to_be_bytes}}
use Rattle.dcsctp_tlv.specs.Kind.{Fault, Length, number32, Format, sized_tlv, Kind, plain_kind, Fixed}
use Rattle.dcsctp_cause.specs.declared.no_user_data_error_cause.NoUserDataErrorCause.{NoUserDataErrorCause}

abbrev pub read : List ℕ → Result ℕ Fault
read value = if length value == 4 then Ok (number32 value) else Err Length

abbrev pub format : ℕ → Format
format tsn = record {
  tlv = sized_tlv 9 4 (to_be_bytes w32 tsn);
  sized = refl;
  text = codes "No User Data, tsn=" ++ decimal tsn;
  IsInWidth = tsn < 2 ^ 32;
  IsWellFormed = Unit {0};
}

abbrev pub view : NoUserDataErrorCause → ℕ
view c = c.tsn.0

abbrev pub kind : Kind
kind = plain_kind 9 Fixed (λ flags. read) format
