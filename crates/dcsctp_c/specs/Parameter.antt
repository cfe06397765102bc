-- A parameter (RFC 9260 section 3.2.1) or an error cause (section 3.3.10), as a C program reads it:
-- offsets into the bytes, and numbers.
use Rattle.std.specs.{Prelude.{◌≡◌, ◌+◌, ℕ, List, Option, Some, None, length, drop}, Option.{option_and_then}}
use Rattle.dcsctp_tlv.specs.{Frame.{lenient}, Number.{number16}, Parameter.{ParameterTree, SsnTsnResetRequest, ZeroChecksumAcceptable, parameters, row as parameter_row}}
use Rattle.dcsctp_cause.specs.Cause.{CauseTree, NoUserData, causes, row as cause_row}
use Rattle.dcsctp_registry.specs.ShortNumbers.{short_numbers_of}
use Rattle.dcsctp_c.specs.Part.{part_at, ValueMeans, IsItemAt, MeansFirst, value_from, read_number}
use Rattle.dcsctp_c.specs.declared.structs.{DcsctpChunk.{DcsctpChunk}, DcsctpParameter.{DcsctpParameter}}

-- its value, where its offset and its size say
abbrev pub parameter_value : List ℕ → DcsctpParameter → Option (List ℕ)
parameter_value bytes p = part_at bytes p.value_offset p.value_size

-- its value means this tree, to a reader that ignores padding
abbrev pub ParameterMeans : List ℕ → DcsctpParameter → ParameterTree → Type 0
ParameterMeans bytes p tree = ValueMeans (parameter_row p.typ) (parameter_value bytes p) tree

abbrev pub CauseMeans : List ℕ → DcsctpParameter → CauseTree → Type 0
CauseMeans bytes p tree = ValueMeans (cause_row p.typ) (parameter_value bytes p) tree

-- The parameter or the cause that begins at an offset of a list in the bytes. The list is said as
-- in `IsItemAt`.
pub record IsListedAt (bytes : List ℕ) (from : ℕ → List ℕ) (end offset : ℕ)
    (p : DcsctpParameter) : Type 0 where
  pub typ : p.typ ≡ number16 (from offset)
  pub item : IsItemAt from end offset p.value_offset (parameter_value bytes p) p.next
  pub of_parameters : MeansFirst (parameters lenient) (parameter_row p.typ) (from offset)
      (parameter_value bytes p) (from p.next)
  pub of_causes : MeansFirst (causes lenient) (cause_row p.typ) (from offset)
      (parameter_value bytes p) (from p.next)

-- of a list that is all of the bytes
abbrev pub IsListedIn : List ℕ → ℕ → DcsctpParameter → Type 0
IsListedIn bytes offset p = IsListedAt bytes (λ n. drop n bytes) (length bytes) offset p

-- of a chunk's value
abbrev pub IsParameterAt : List ℕ → DcsctpChunk → ℕ → DcsctpParameter → Type 0
IsParameterAt bytes c offset p =
    IsListedAt bytes (value_from bytes c) (c.value_offset + c.value_size) offset p

-- ---- a value that is one number

abbrev pub number_at : List ℕ → DcsctpParameter → Option ℕ
number_at bytes p = option_and_then read_number (parameter_value bytes p)

-- the one number of a parameter: the request number of an SSN/TSN Reset Request (RFC 6525 section
-- 4.3), the method of Zero Checksum Acceptable (RFC 9653 section 4)
abbrev pub number_of : ParameterTree → Option ℕ
number_of (SsnTsnResetRequest number) = Some number
number_of (ZeroChecksumAcceptable method) = Some method
number_of t = None

-- that of a cause: the TSN of No User Data (RFC 9260 section 3.3.10.9)
abbrev pub cause_number_of : CauseTree → Option ℕ
cause_number_of (NoUserData tsn) = Some tsn
cause_number_of t = None

-- ---- a value that is numbers of two bytes each

abbrev pub short_numbers_at : List ℕ → DcsctpParameter → Option (List ℕ)
short_numbers_at bytes p = option_and_then short_numbers_of (parameter_value bytes p)
