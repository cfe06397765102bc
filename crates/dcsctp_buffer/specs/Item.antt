-- A parameter or an error cause that is added to the last chunk of a packet (RFC 9260 sections
-- 3.2.1 and 3.3.10).
use Rattle.std.specs.{Prelude.{◌≡◌, ℕ, ◌+◌, ◌%◌, ◌≤◌, ◌<◌, ◌^◌, Bool, Option, Some, None, List, [], ◌∷◌, ◌++◌, length, drop, replicate}, Int.{w16, to_be_bytes}}
use Rattle.dcsctp_tlv.specs.{Frame.{round_up_to_4, typed_header, frame_length}, Image.{zeroed, gap, put}, Number.{numbers}, Parameter.{ParameterTree, row as parameter_row}}
use Rattle.dcsctp_cause.specs.Cause.{CauseTree, row as cause_row}
use Rattle.dcsctp_chunk.specs.Unknown.{Tree}
use Rattle.dcsctp_wire.specs.{Chunk.{ChunkTree, Init, InitAck, HeartbeatRequest, HeartbeatAck, Abort, Error, ReConfig, Unknown, tlv as chunk_tlv}, Packet.{Meaning}}
use Rattle.dcsctp_buffer.specs.Buffer.{IsBegun, HoldsPacket, with_chunk, ReadsAs}

-- ---- the chunk

-- an item's value: leading bytes, and after them numbers of two bytes
abbrev pub item_value : List ℕ → List ℕ → List ℕ
item_value leading words = leading ++ numbers w16 words

-- A list with one item more, in whole. The padding of the item before it is part of the list, and
-- that of the last isn't (RFC 9260 section 3.2).
abbrev pub with_last : List ℕ → ℕ → List ℕ → List ℕ
with_last list typ value =
    list ++ (replicate (gap (length list)) 0 ++ (typed_header typ (length value) ++ value))

-- a chunk by its type, its flags and the bytes of its value
abbrev pub raw : ChunkTree → Tree
raw t = record {
  typ = (chunk_tlv t).first;
  flags = (chunk_tlv t).second;
  value = zeroed (chunk_tlv t).value;
}

-- the same with one item more at the end of its value
abbrev pub extended : ChunkTree → ℕ → List ℕ → ChunkTree
extended t typ value = Unknown (record (raw t) { value = with_last (raw t).value typ value })

-- ---- what the chunk reads as

-- a chunk with one parameter more, the last; nothing where its kind has no parameters
abbrev pub with_parameter : ChunkTree → ParameterTree → Option ChunkTree
with_parameter (Init i) p = Some (Init (record i { parameters = i.parameters ++ p ∷ [] }))
with_parameter (InitAck i) p = Some (InitAck (record i { parameters = i.parameters ++ p ∷ [] }))
with_parameter (HeartbeatRequest ps) p = Some (HeartbeatRequest (ps ++ p ∷ []))
with_parameter (HeartbeatAck ps) p = Some (HeartbeatAck (ps ++ p ∷ []))
with_parameter (ReConfig ps) p = Some (ReConfig (ps ++ p ∷ []))
with_parameter t p = None

-- the same with one error cause more
abbrev pub with_cause : ChunkTree → CauseTree → Option ChunkTree
with_cause (Abort a) c = Some (Abort (record a { causes = a.causes ++ c ∷ [] }))
with_cause (Error cs) c = Some (Error (cs ++ c ∷ []))
with_cause t c = None

-- A chunk that reads as one with parameters reads as the same with one more, where the item is one.
abbrev pub ExtendsParameters : ℕ → List ℕ → Type 0
ExtendsParameters typ value = (strict : Bool) (t u longer : ChunkTree) (p : ParameterTree)
    → (parameter_row typ).means value p → ReadsAs strict t u → with_parameter u p ≡ Some longer
    → ReadsAs strict (extended t typ value) longer

-- the same of error causes
abbrev pub ExtendsCauses : ℕ → List ℕ → Type 0
ExtendsCauses typ value = (strict : Bool) (t u longer : ChunkTree) (c : CauseTree)
    → (cause_row typ).means value c → ReadsAs strict t u → with_cause u c ≡ Some longer
    → ReadsAs strict (extended t typ value) longer

-- An ERROR without a cause can be written, and reads as nothing (RFC 9260 section 3.3.10); with a
-- cause it reads as an ERROR.
abbrev pub MakesError : ℕ → List ℕ → Type 0
MakesError typ value = (strict : Bool) (c : CauseTree) → (cause_row typ).means value c
    → ReadsAs strict (extended (Error []) typ value) (Error (c ∷ []))

-- ---- the buffer

-- A chunk begins at `start`, and it and its padding end the packet.
pub record IsLastChunk (buffer : List ℕ) (size start : ℕ) : Type 0 where
  pub begun : IsBegun (length buffer) size
  pub after_header : 12 ≤ start
  pub words : start % 4 ≡ 0
  pub header : start + 4 ≤ size
  pub low : 4 ≤ frame_length (drop start buffer)
  pub ends : start + round_up_to_4 (frame_length (drop start buffer)) ≡ size

-- the length of the chunk at `start`, with one item more
abbrev pub extended_length : List ℕ → ℕ → List ℕ → ℕ
extended_length buffer start value =
    round_up_to_4 (frame_length (drop start buffer)) + (4 + length value)

-- two bytes can hold this length
abbrev pub IsExtensible : List ℕ → ℕ → List ℕ → Type 0
IsExtensible buffer start value = extended_length buffer start value < 2 ^ 16

-- An item can be added: the packet has room for it and its padding.
pub record HasItemRoom (buffer : List ℕ) (size start : ℕ) (value : List ℕ) : Type 0 where
  pub place : IsLastChunk buffer size start
  pub extensible : IsExtensible buffer start value
  pub within : size + round_up_to_4 (4 + length value) ≤ length buffer
  pub whole : size + round_up_to_4 (4 + length value) ≤ 65532

-- what is written after a chunk of `size` bytes: its padding, the item, and the item's padding
abbrev pub padded_item : ℕ → ℕ → List ℕ → List ℕ
padded_item size typ value = replicate (gap size) 0 ++ (typed_header typ (length value)
    ++ (value ++ replicate (gap (4 + length value)) 0))

-- The item was added: the chunk has its new length, and after its value are zeros up to a multiple
-- of 4, the item, and zeros up to a multiple of 4. All other bytes stay, and the packet ends after
-- these. Whatever was held before the chunk, and with it, is held still, with the longer chunk.
pub record IsItemAdded (typ : ℕ) (value old : List ℕ) (old_size start : ℕ) (new : List ℕ)
    (end : ℕ) : Type 0 where
  pub size : end ≡ old_size + round_up_to_4 (4 + length value)
  pub bytes : new
      ≡ put (put old (start + 2) (to_be_bytes w16 (extended_length old start value)))
      (start + frame_length (drop start old))
      (padded_item (frame_length (drop start old)) typ value)
  pub held : (m : Meaning) (t : ChunkTree) → HoldsPacket old start m
      → HoldsPacket old old_size (with_chunk m t)
      → HoldsPacket new end (with_chunk m (extended t typ value))
