-- Missing Mandatory Parameter (RFC 9260 section 3.3.10.2): code 2; the value is how many parameters
-- are missing, four bytes, and then the type of each, two bytes.
--
-- The count is a natural number here, so no count above the number of types that are there is
-- accepted.
use Rattle.std.specs.{Prelude.{ℕ, ◌+◌, ◌*◌, ◌<◌, ◌^◌, List, [], ◌∷◌, ◌++◌, ◌==◌, Result, Ok, Err, if◌then◌else◌, length, drop, map, codes, refl}, Fmt.{decimal}, List.{AllByRecursion}, Int.{w16, w32}}
use Rattle.dcsctp_tlv.specs.Kind.{Fault, Length, fields, number16, number32, numbers, joined, Format, sized_tlv, length-words, Kind, plain_kind, Varied}
use Rattle.dcsctp_cause.specs.declared.missing_mandatory_parameter_error_cause.MissingMandatoryParameterErrorCause.{MissingMandatoryParameterErrorCause}

abbrev pub read : List ℕ → Result (List ℕ) Fault
read value =
    if length value == 4 + 2 * number32 value
    then Ok (fields number16 2 (number32 value) (drop 4 value)) else
    Err Length

abbrev pub format : List ℕ → Format
format types = record {
  tlv = sized_tlv 2 (4 + 2 * length types) (numbers w32 (length types ∷ []) ++ numbers w16 types);
  sized = length-words w16 2 (length types ∷ []) types (λ n. refl);
  text =
      codes "Missing Mandatory Parameter, missing_parameters=["
      ++ (joined (codes ", ") (map decimal types) ++ codes "]");
  IsInWidth = AllByRecursion (λ typ. typ < 2 ^ 16) types;
  IsWellFormed = Unit {0};
}

abbrev pub view : MissingMandatoryParameterErrorCause → List ℕ
view c = c.missing_parameters.items

abbrev pub kind : Kind
kind = plain_kind 2 Varied (λ flags. read) format
