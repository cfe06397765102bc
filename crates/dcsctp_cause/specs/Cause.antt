-- The table of error causes (RFC 9260 section 3.3.10).
use Rattle.std.specs.{Prelude.{◌≡◌, ◌≢◌, ℕ, Bool, List, [], ◌∷◌, map}, String.{string_len, string_capacity}, Str.{IsUtf8}}
use Rattle.dcsctp_tlv.specs.{Frame.{Item, lenient}, Image.{Tlv}, Level.{Row, Level}, Table.{Named, IsUnnamed, is_fixed, is_text, types_where, IsOneOf}, Format.{Format}, Tight.{IsTightList}, Kinds.{Kind, Member, member, kinds_of, rows, Entry, Of, Unnamed, format_of}, Typed.{item_type, typed_row, typed_level}}
use Rattle.dcsctp_tlv.specs.UnknownParameter as unknown
use Rattle.dcsctp_cause.specs as kind
use Rattle.dcsctp_cause.specs.declared.error_causes.ErrorCause.{ErrorCause}
use Rattle.dcsctp_cause.specs.declared.error_causes.ErrorCause.TheVariants as variant

-- an error cause as plain data; a text is its bytes
pub data CauseTree : Type 0 where
  MissingMandatoryParameter : List ℕ → CauseTree
  UnrecognizedChunk : List ℕ → CauseTree
  NoUserData : ℕ → CauseTree
  CookieReceivedWhileShuttingDown : CauseTree
  UserInitiatedAbort : List ℕ → CauseTree
  ProtocolViolation : List ℕ → CauseTree
  Unknown : unknown.Tree → CauseTree

-- the kinds that are named, by code
abbrev pub members : List (Member CauseTree)
members =
    member kind.MissingMandatoryParameter.kind MissingMandatoryParameter ∷  -- 2
    member kind.UnrecognizedChunk.kind UnrecognizedChunk ∷  -- 6
    member kind.NoUserData.kind NoUserData ∷  -- 9
    member kind.CookieReceivedWhileShuttingDown.kind (λ _. CookieReceivedWhileShuttingDown) ∷  -- 10
    member kind.UserInitiatedAbort.kind UserInitiatedAbort ∷  -- 12
    member kind.ProtocolViolation.kind ProtocolViolation ∷  -- 13
    []

abbrev pub kinds : List Kind
kinds = kinds_of members

abbrev pub table : List (Named CauseTree)
table = rows lenient 0 members

-- what the value of a code means, and its faults
abbrev pub row : ℕ → Row CauseTree
row = typed_row table Unknown

-- lists of causes, for a strict reader or a lenient one
abbrev pub causes : Bool → Level CauseTree
causes = typed_level row

-- what such a value means holds nothing on the heap
abbrev pub TakesNoMemory : ℕ → Type 0
TakesNoMemory code = IsOneOf (types_where is_fixed table) code

-- a cause of the code holds a text
abbrev pub HoldsText : ℕ → Type 0
HoldsText code = IsOneOf (types_where is_text table) code

-- The cause keeps its bytes: if its value is read as a text, then it is UTF-8.
abbrev pub IsTextKept : Item → Type 0
IsTextKept i = HoldsText (item_type i) → IsUtf8 i.value

-- its text, if it has one, isn't the one that a value is read as that isn't UTF-8
abbrev pub HasOwnText : CauseTree → Type 0
HasOwnText (UserInitiatedAbort reason) = reason ≢ kind.UserInitiatedAbort.unreadable
HasOwnText (ProtocolViolation information) = information ≢ kind.ProtocolViolation.unreadable
HasOwnText t = Unit {0}

-- the kind of a cause, and its tree there; an Unknown one has a code that isn't named
abbrev pub entry : CauseTree → Entry CauseTree
entry (MissingMandatoryParameter types) =
    Of kind.MissingMandatoryParameter.kind MissingMandatoryParameter types
entry (UnrecognizedChunk chunk) = Of kind.UnrecognizedChunk.kind UnrecognizedChunk chunk
entry (NoUserData tsn) = Of kind.NoUserData.kind NoUserData tsn
entry CookieReceivedWhileShuttingDown =
    Of kind.CookieReceivedWhileShuttingDown.kind (λ _. CookieReceivedWhileShuttingDown) tt
entry (UserInitiatedAbort reason) = Of kind.UserInitiatedAbort.kind UserInitiatedAbort reason
entry (ProtocolViolation information) = Of kind.ProtocolViolation.kind ProtocolViolation information
entry (Unknown u) =
    Unnamed (record (unknown.format u) { IsWellFormed = IsUnnamed table u.typ })

-- what is said of a cause
abbrev pub format : CauseTree → Format
format t = format_of (entry t)

abbrev pub tlv : CauseTree → Tlv
tlv t = (format t).tlv

abbrev pub text : CauseTree → List ℕ
text t = (format t).text

abbrev pub IsInWidth : CauseTree → Type 0
IsInWidth t = (format t).IsInWidth

abbrev pub IsWellFormed : CauseTree → Type 0
IsWellFormed t = (format t).IsWellFormed

-- its list or its text, if it has one, has room for its items alone
abbrev pub IsTight : ErrorCause → Type 0
IsTight (variant.MissingMandatoryParameter c) = IsTightList c.missing_parameters
IsTight (variant.UnrecognizedChunk c) = IsTightList c.chunk
IsTight (variant.UserInitiatedAbort c) = string_capacity c.reason ≡ string_len c.reason
IsTight (variant.ProtocolViolation c) = string_capacity c.information ≡ string_len c.information
IsTight (variant.Unknown u) = IsTightList u.value
IsTight c = Unit {0}

-- a cause of the code, without where it lies in memory
abbrev pub view : ErrorCause → CauseTree
view (variant.MissingMandatoryParameter c) =
    MissingMandatoryParameter (kind.MissingMandatoryParameter.view c)
view (variant.UnrecognizedChunk c) = UnrecognizedChunk (kind.UnrecognizedChunk.view c)
view (variant.NoUserData c) = NoUserData (kind.NoUserData.view c)
view (variant.CookieReceivedWhileShuttingDown c) = CookieReceivedWhileShuttingDown
view (variant.UserInitiatedAbort c) = UserInitiatedAbort (kind.UserInitiatedAbort.view c)
view (variant.ProtocolViolation c) = ProtocolViolation (kind.ProtocolViolation.view c)
view (variant.Unknown u) = Unknown (unknown.view u)

abbrev pub views : List ErrorCause → List CauseTree
views cs = map view cs
