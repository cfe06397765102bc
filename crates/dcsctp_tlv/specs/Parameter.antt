-- The table of parameters (RFC 9260 section 3.2.1).
use Rattle.std.specs.Prelude.{ℕ, Bool, List, [], ◌∷◌, map}
use Rattle.dcsctp_tlv.specs.{Frame.{lenient}, Image.{Tlv}, Level.{Row, Level}, Table.{Named, IsUnnamed, is_fixed, types_where, IsOneOf}, Format.{Format}, Tight.{IsTightList}, Kinds.{Kind, Member, member, kinds_of, rows, Entry, Of, Unnamed, format_of, kept_of}, Typed.{typed_row, typed_level}, declared.parameter.Parameter.{Parameter}}
use Rattle.dcsctp_tlv.specs as kind
use Rattle.dcsctp_tlv.specs.UnknownParameter as unknown
use Rattle.dcsctp_tlv.specs.declared.parameter.Parameter.TheVariants as variant

-- a parameter as plain data
pub data ParameterTree : Type 0 where
  HeartbeatInfo : List ℕ → ParameterTree
  StateCookie : List ℕ → ParameterTree
  OutgoingSsnResetRequest : kind.OutgoingSsnResetRequest.Tree → ParameterTree
  IncomingSsnResetRequest : kind.IncomingSsnResetRequest.Tree → ParameterTree
  SsnTsnResetRequest : ℕ → ParameterTree
  ReconfigurationResponse : kind.ReconfigurationResponse.Tree → ParameterTree
  AddOutgoingStreamsRequest : kind.AddStreamsRequest.Tree → ParameterTree
  AddIncomingStreamsRequest : kind.AddStreamsRequest.Tree → ParameterTree
  ZeroChecksumAcceptable : ℕ → ParameterTree
  SupportedExtensions : List ℕ → ParameterTree
  ForwardTsnSupported : ParameterTree
  Unknown : unknown.Tree → ParameterTree

-- the kinds that are named, by type
abbrev pub members : List (Member ParameterTree)
members =
    member kind.HeartbeatInfo.kind HeartbeatInfo ∷  -- 1
    member kind.StateCookie.kind StateCookie ∷  -- 7
    member kind.OutgoingSsnResetRequest.kind OutgoingSsnResetRequest ∷  -- 13
    member kind.IncomingSsnResetRequest.kind IncomingSsnResetRequest ∷  -- 14
    member kind.SsnTsnResetRequest.kind SsnTsnResetRequest ∷  -- 15
    member kind.ReconfigurationResponse.kind ReconfigurationResponse ∷  -- 16
    member kind.AddOutgoingStreamsRequest.kind AddOutgoingStreamsRequest ∷  -- 17
    member kind.AddIncomingStreamsRequest.kind AddIncomingStreamsRequest ∷  -- 18
    member kind.ZeroChecksumAcceptable.kind ZeroChecksumAcceptable ∷  -- 0x8001
    member kind.SupportedExtensions.kind SupportedExtensions ∷  -- 0x8008
    member kind.ForwardTsnSupported.kind (λ _. ForwardTsnSupported) ∷  -- 0xC000
    []

abbrev pub kinds : List Kind
kinds = kinds_of members

abbrev pub table : List (Named ParameterTree)
table = rows lenient 0 members

-- what the value of a type means, and its faults
abbrev pub row : ℕ → Row ParameterTree
row = typed_row table Unknown

-- lists of parameters, for a strict reader or a lenient one
abbrev pub parameters : Bool → Level ParameterTree
parameters = typed_level row

-- what such a value means holds nothing on the heap
abbrev pub TakesNoMemory : ℕ → Type 0
TakesNoMemory typ = IsOneOf (types_where is_fixed table) typ

-- the kind of a parameter, and its tree there; an Unknown one has a type that isn't named
abbrev pub entry : ParameterTree → Entry ParameterTree
entry (HeartbeatInfo info) = Of kind.HeartbeatInfo.kind HeartbeatInfo info
entry (StateCookie cookie) = Of kind.StateCookie.kind StateCookie cookie
entry (OutgoingSsnResetRequest r) = Of kind.OutgoingSsnResetRequest.kind OutgoingSsnResetRequest r
entry (IncomingSsnResetRequest r) = Of kind.IncomingSsnResetRequest.kind IncomingSsnResetRequest r
entry (SsnTsnResetRequest request) = Of kind.SsnTsnResetRequest.kind SsnTsnResetRequest request
entry (ReconfigurationResponse r) = Of kind.ReconfigurationResponse.kind ReconfigurationResponse r
entry (AddOutgoingStreamsRequest r) =
    Of kind.AddOutgoingStreamsRequest.kind AddOutgoingStreamsRequest r
entry (AddIncomingStreamsRequest r) =
    Of kind.AddIncomingStreamsRequest.kind AddIncomingStreamsRequest r
entry (ZeroChecksumAcceptable method) =
    Of kind.ZeroChecksumAcceptable.kind ZeroChecksumAcceptable method
entry (SupportedExtensions types) = Of kind.SupportedExtensions.kind SupportedExtensions types
entry ForwardTsnSupported = Of kind.ForwardTsnSupported.kind (λ _. ForwardTsnSupported) tt
entry (Unknown u) =
    Unnamed (record (unknown.format u) { IsWellFormed = IsUnnamed table u.typ })

-- what is said of a parameter
abbrev pub format : ParameterTree → Format
format t = format_of (entry t)

abbrev pub tlv : ParameterTree → Tlv
tlv t = (format t).tlv

abbrev pub IsInWidth : ParameterTree → Type 0
IsInWidth t = (format t).IsInWidth

abbrev pub IsWellFormed : ParameterTree → Type 0
IsWellFormed t = (format t).IsWellFormed

-- the text of a parameter
abbrev pub text : ParameterTree → List ℕ
text t = (format t).text

-- What a parameter that is written reads back as: a response with fewer than two next TSNs has
-- none.
abbrev pub kept : ParameterTree → ParameterTree
kept t = kept_of t (entry t)

abbrev pub all_kept : List ParameterTree → List ParameterTree
all_kept ts = map kept ts

-- its list, if it has one, has room for its items alone
abbrev pub IsTight : Parameter → Type 0
IsTight (variant.HeartbeatInfo p) = IsTightList p.info
IsTight (variant.StateCookie p) = IsTightList p.cookie
IsTight (variant.OutgoingSsnResetRequest p) = IsTightList p.streams
IsTight (variant.IncomingSsnResetRequest p) = IsTightList p.streams
IsTight (variant.SupportedExtensions p) = IsTightList p.chunk_types
IsTight (variant.Unknown p) = IsTightList p.value
IsTight p = Unit {0}

-- a parameter of the code, without where it lies in memory
abbrev pub view : Parameter → ParameterTree
view (variant.HeartbeatInfo p) = HeartbeatInfo (kind.HeartbeatInfo.view p)
view (variant.StateCookie p) = StateCookie (kind.StateCookie.view p)
view (variant.OutgoingSsnResetRequest p) =
    OutgoingSsnResetRequest (kind.OutgoingSsnResetRequest.view p)
view (variant.IncomingSsnResetRequest p) =
    IncomingSsnResetRequest (kind.IncomingSsnResetRequest.view p)
view (variant.SsnTsnResetRequest p) = SsnTsnResetRequest (kind.SsnTsnResetRequest.view p)
view (variant.ReconfigurationResponse p) =
    ReconfigurationResponse (kind.ReconfigurationResponse.view p)
view (variant.AddOutgoingStreamsRequest p) =
    AddOutgoingStreamsRequest (kind.AddOutgoingStreamsRequest.view p)
view (variant.AddIncomingStreamsRequest p) =
    AddIncomingStreamsRequest (kind.AddIncomingStreamsRequest.view p)
view (variant.ZeroChecksumAcceptable p) =
    ZeroChecksumAcceptable (kind.ZeroChecksumAcceptable.view p)
view (variant.SupportedExtensions p) = SupportedExtensions (kind.SupportedExtensions.view p)
view (variant.ForwardTsnSupported p) = ForwardTsnSupported
view (variant.Unknown p) = Unknown (unknown.view p)

abbrev pub views : List Parameter → List ParameterTree
views ps = map view ps
