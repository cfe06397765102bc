-- The table of chunks (RFC 9260 section 3.2).
use Rattle.std.specs.Prelude.{◌⊎◌, ℕ, Bool, List, [], ◌∷◌, map}
use Rattle.dcsctp_tlv.specs.{Frame.{lenient, full_padding}, Level.{Row, plain, Level, map_ok}, Table.{Named, row_of, IsUnnamed, is_fixed, has_causes, types_where, IsOneOf, HasEmptyList}, Image.{Tlv, IsEncodable}, Format.{Format}, Tight.{IsTightList, AreTight}, Parameter.{ParameterTree, IsTight as IsTightParameter}, Kinds.{Member, member, plain_of, rows, Entry, Of, Unnamed, format_of, kept_of, parts_of}}
use Rattle.dcsctp_cause.specs.Cause.{CauseTree, IsTight as IsTightCause}
use Rattle.dcsctp_chunk.specs as plain_kind
use Rattle.dcsctp_chunk.specs.SkippedStreams as skipped_streams
use Rattle.dcsctp_wire.specs as kind
use Rattle.dcsctp_wire.specs.declared.packet.chunk.Chunk.{Chunk}
use Rattle.dcsctp_wire.specs.declared.packet.chunk.Chunk.TheVariants as variant

-- a chunk as plain data
pub data ChunkTree : Type 0 where
  Data : plain_kind.Data.Tree → ChunkTree
  Init : kind.InitFields.Tree → ChunkTree
  InitAck : kind.InitFields.Tree → ChunkTree
  Sack : plain_kind.Sack.Tree → ChunkTree
  HeartbeatRequest : List ParameterTree → ChunkTree
  HeartbeatAck : List ParameterTree → ChunkTree
  Abort : kind.Abort.Tree → ChunkTree
  Shutdown : ℕ → ChunkTree
  ShutdownAck : ChunkTree
  Error : List CauseTree → ChunkTree
  CookieEcho : List ℕ → ChunkTree
  CookieAck : ChunkTree
  ShutdownComplete : Bool → ChunkTree
  IData : plain_kind.Data.Tree → ChunkTree
  ReConfig : List ParameterTree → ChunkTree
  ForwardTsn : skipped_streams.Tree → ChunkTree
  IForwardTsn : skipped_streams.Tree → ChunkTree
  Unknown : plain_kind.Unknown.Tree → ChunkTree

-- The kinds that are named, by type: those of RFC 9260's table 1 (section 3.2), and after them those
-- of RFC 8260, 6525 and 3758.
abbrev pub members : List (Member ChunkTree)
members =
    member plain_kind.DataChunk.kind Data ∷  -- 0
    member kind.Init.kind Init ∷  -- 1
    member kind.InitAck.kind InitAck ∷  -- 2
    member plain_kind.Sack.kind Sack ∷  -- 3
    member kind.HeartbeatRequest.kind HeartbeatRequest ∷  -- 4
    member kind.HeartbeatAck.kind HeartbeatAck ∷  -- 5
    member kind.Abort.kind Abort ∷  -- 6
    member plain_kind.Shutdown.kind Shutdown ∷  -- 7
    member plain_kind.ShutdownAck.kind (λ _. ShutdownAck) ∷  -- 8
    member kind.Error.kind Error ∷  -- 9
    member plain_kind.CookieEcho.kind CookieEcho ∷  -- 10
    member plain_kind.CookieAck.kind (λ _. CookieAck) ∷  -- 11
    member plain_kind.ShutdownComplete.kind ShutdownComplete ∷  -- 14
    member plain_kind.IDataChunk.kind IData ∷  -- 64
    member kind.ReConfig.kind ReConfig ∷  -- 130
    member plain_kind.ForwardTsn.kind ForwardTsn ∷  -- 192
    member plain_kind.IForwardTsn.kind IForwardTsn ∷  -- 194
    []

-- the types that are named, and how the value of each is read, for a strict reader or a lenient one
abbrev pub table : Bool → ℕ → List (Named ChunkTree)
table strict flags = rows strict flags members

-- those of the kinds without a list
abbrev pub plain_rows : ℕ → List (Named ChunkTree)
plain_rows flags = rows lenient flags (plain_of members)

-- what the value of a type means, and its faults
abbrev pub chunk_row : Bool → ℕ → ℕ → Row ChunkTree
chunk_row strict typ flags =
    row_of (table strict flags) typ (plain
    (λ value. map_ok Unknown (plain_kind.Unknown.read typ flags value)))

-- The chunks of a packet. A strict reader wants all the padding of the last one too.
abbrev pub chunks : Bool → Level ChunkTree
chunks strict = record { row = chunk_row strict; padding = full_padding strict }

-- What the value means holds nothing on the heap: a kind of fixed size, or an empty list.
abbrev pub TakesNoMemory : ℕ → List ℕ → Type 0
TakesNoMemory typ value =
    IsOneOf (types_where is_fixed (table lenient 0)) typ
    ⊎ HasEmptyList (table lenient 0) typ value

-- a chunk of the type holds error causes
abbrev pub HoldsCauses : ℕ → Type 0
HoldsCauses typ = IsOneOf (types_where has_causes (table lenient 0)) typ

-- the kind of a chunk, and its tree there; an Unknown one has a type that isn't named
abbrev pub entry : ChunkTree → Entry ChunkTree
entry (Data c) = Of plain_kind.DataChunk.kind Data c
entry (Init i) = Of kind.Init.kind Init i
entry (InitAck i) = Of kind.InitAck.kind InitAck i
entry (Sack s) = Of plain_kind.Sack.kind Sack s
entry (HeartbeatRequest ps) = Of kind.HeartbeatRequest.kind HeartbeatRequest ps
entry (HeartbeatAck ps) = Of kind.HeartbeatAck.kind HeartbeatAck ps
entry (Abort a) = Of kind.Abort.kind Abort a
entry (Shutdown tsn) = Of plain_kind.Shutdown.kind Shutdown tsn
entry ShutdownAck = Of plain_kind.ShutdownAck.kind (λ _. ShutdownAck) tt
entry (Error cs) = Of kind.Error.kind Error cs
entry (CookieEcho cookie) = Of plain_kind.CookieEcho.kind CookieEcho cookie
entry CookieAck = Of plain_kind.CookieAck.kind (λ _. CookieAck) tt
entry (ShutdownComplete reflected) = Of plain_kind.ShutdownComplete.kind ShutdownComplete reflected
entry (IData c) = Of plain_kind.IDataChunk.kind IData c
entry (ReConfig ps) = Of kind.ReConfig.kind ReConfig ps
entry (ForwardTsn t) = Of plain_kind.ForwardTsn.kind ForwardTsn t
entry (IForwardTsn t) = Of plain_kind.IForwardTsn.kind IForwardTsn t
entry (Unknown u) = Unnamed (record (plain_kind.Unknown.format u) {
  IsWellFormed = IsUnnamed (table lenient u.flags) u.typ;
})

-- what is said of a chunk
abbrev pub format : ChunkTree → Format
format t = format_of (entry t)

abbrev pub tlv : ChunkTree → Tlv
tlv t = (format t).tlv

abbrev pub text : ChunkTree → List ℕ
text t = (format t).text

abbrev pub IsInWidth : ChunkTree → Type 0
IsInWidth t = (format t).IsInWidth

abbrev pub IsWellFormed : ChunkTree → Type 0
IsWellFormed t = (format t).IsWellFormed

-- the skipped streams have a place in it
abbrev pub IsPlaced : ChunkTree → Type 0
IsPlaced (ForwardTsn f) = IsWellFormed (ForwardTsn f)
IsPlaced (IForwardTsn f) = IsWellFormed (IForwardTsn f)
IsPlaced t = Unit {0}

-- it can be written: that, and two bytes can hold its size
abbrev pub IsChunkEncodable : ChunkTree → Type 0
IsChunkEncodable t = IsPlaced t × IsEncodable (tlv t)

-- What a chunk that is written reads back as: fields that a kind doesn't carry are zero; a response
-- with fewer than two next TSNs has none.
abbrev pub kept : ChunkTree → ChunkTree
kept t = kept_of t (entry t)

abbrev pub all_kept : List ChunkTree → List ChunkTree
all_kept ts = map kept ts

-- how many parts it has: itself, and the parameters or causes in it
abbrev pub parts : ChunkTree → ℕ
parts t = parts_of (entry t)

-- its lists have room for their items alone, and so has each item
abbrev pub IsTight : Chunk → Type 0
IsTight (variant.Data c) = IsTightList c.user_data.payload
IsTight (variant.Init c) = AreTight IsTightParameter c.parameters
IsTight (variant.InitAck c) = AreTight IsTightParameter c.parameters
IsTight (variant.Sack c) = IsTightList c.gap_ack_blocks × IsTightList c.duplicate_tsns
IsTight (variant.HeartbeatRequest c) = AreTight IsTightParameter c.parameters
IsTight (variant.HeartbeatAck c) = AreTight IsTightParameter c.parameters
IsTight (variant.Abort c) = AreTight IsTightCause c.error_causes
IsTight (variant.Error c) = AreTight IsTightCause c.error_causes
IsTight (variant.CookieEcho c) = IsTightList c.cookie
IsTight (variant.IData c) = IsTightList c.user_data.payload
IsTight (variant.ReConfig c) = AreTight IsTightParameter c.parameters
IsTight (variant.ForwardTsn c) = IsTightList c.skipped_streams
IsTight (variant.IForwardTsn c) = IsTightList c.skipped_streams
IsTight (variant.Unknown c) = IsTightList c.value
IsTight c = Unit {0}

-- a chunk of the code, without where it lies in memory
abbrev pub view : Chunk → ChunkTree
view (variant.Data c) = Data (plain_kind.DataChunk.view c)
view (variant.Init c) = Init (kind.Init.view c)
view (variant.InitAck c) = InitAck (kind.InitAck.view c)
view (variant.Sack c) = Sack (plain_kind.Sack.view c)
view (variant.HeartbeatRequest c) = HeartbeatRequest (kind.HeartbeatRequest.view c)
view (variant.HeartbeatAck c) = HeartbeatAck (kind.HeartbeatAck.view c)
view (variant.Abort c) = Abort (kind.Abort.view c)
view (variant.Shutdown c) = Shutdown (plain_kind.Shutdown.view c)
view (variant.ShutdownAck c) = ShutdownAck
view (variant.Error c) = Error (kind.Error.view c)
view (variant.CookieEcho c) = CookieEcho (plain_kind.CookieEcho.view c)
view (variant.CookieAck c) = CookieAck
view (variant.ShutdownComplete c) = ShutdownComplete (plain_kind.ShutdownComplete.view c)
view (variant.IData c) = IData (plain_kind.IDataChunk.view c)
view (variant.ReConfig c) = ReConfig (kind.ReConfig.view c)
view (variant.ForwardTsn c) = ForwardTsn (plain_kind.ForwardTsn.view c)
view (variant.IForwardTsn c) = IForwardTsn (plain_kind.IForwardTsn.view c)
view (variant.Unknown c) = Unknown (plain_kind.Unknown.view c)

abbrev pub views : List Chunk → List ChunkTree
views cs = map view cs
