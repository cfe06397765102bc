-- A packet at the front of a buffer, to which chunks are added (RFC 9260 section 3).
use Rattle.std.specs.Prelude.{◌≡◌, ℕ, ◌+◌, ◌%◌, ◌≤◌, Bool, List, [], ◌∷◌, ◌++◌, length, take, drop}
use Rattle.dcsctp_tlv.specs.{Frame.{round_up_to_4}, Image.{Tlv, zeroed, put, size_of, image_of}}
use Rattle.dcsctp_wire.specs.{Chunk.{ChunkTree, tlv as chunk_tlv, chunk_row, IsChunkEncodable, all_kept}, Canonical.{canonical, padded_chunk, Fits}, Packet.{Meaning}, WellFormed.{IsInWidth}}
use Rattle.dcsctp_buffer.specs.{declared.error.WriteError.{WriteError}, declared.error.WriteError.TheVariants.{BadPlace, BadValue, NoRoom}}

-- The first `size` bytes are the canonical packet of m: each chunk can be written, the packet has
-- at most 65,532 bytes, and its numbers lie in their fields' widths. A relation, since two meanings
-- can have the same bytes: COOKIE ACK, and an Unknown chunk of its type.
pub record HoldsPacket (buffer : List ℕ) (size : ℕ) (m : Meaning) : Type 0 where
  pub within : size ≤ length buffer
  pub bytes : take size buffer ≡ canonical m
  pub fits : Fits m
  pub width : IsInWidth m

-- A packet that was begun can have this size, in a buffer of `room` bytes.
pub record IsBegun (room size : ℕ) : Type 0 where
  pub header : 12 ≤ size
  pub words : size % 4 ≡ 0
  pub within : size ≤ room
  pub whole : size ≤ 65532

-- why something isn't added: the first of these that is so
abbrev pub Declines : (IsPlace IsWritable Fits : Type 0) → WriteError → Type 0
Declines place writable fits BadPlace = ¬ place
Declines place writable fits BadValue = place × (¬ writable)
Declines place writable fits NoRoom = place × writable × (¬ fits)

-- A chunk can be added after the first `size` bytes of a buffer of `room` bytes: these have a
-- header, and end at a multiple of 4; and with the chunk and its padding the packet has room.
pub record HasRoom (room size : ℕ) (t : ChunkTree) : Type 0 where
  pub header : 12 ≤ size
  pub words : size % 4 ≡ 0
  pub encodable : IsChunkEncodable t
  pub within : size + round_up_to_4 (size_of (chunk_tlv t)) ≤ room
  pub whole : size + round_up_to_4 (size_of (chunk_tlv t)) ≤ 65532

-- the packet with one more chunk, the last
abbrev pub with_chunk : Meaning → ChunkTree → Meaning
with_chunk m t = record m { chunks = m.chunks ++ t ∷ [] }

-- The chunk was added after the first `start` bytes, with zeros up to a multiple of 4; all other
-- bytes stay, and the packet ends after these. Whatever was held is held still, with the chunk
-- after its own.
pub record IsAdded (t : ChunkTree) (old : List ℕ) (start : ℕ) (new : List ℕ)
    (end : ℕ) : Type 0 where
  pub size : end ≡ start + round_up_to_4 (size_of (chunk_tlv t))
  pub bytes : new ≡ put old start (padded_chunk t)
  pub held : (m : Meaning) → HoldsPacket old start m → HoldsPacket new end (with_chunk m t)

-- the packet without the fields that its kinds of chunk don't carry
abbrev pub kept : Meaning → Meaning
kept m = record m { chunks = all_kept m.chunks }

-- What the bytes of a chunk that is written read as, for a strict reader or a lenient one. An
-- Unknown chunk of a type that is named reads as one of its type.
abbrev pub ReadsAs : Bool → ChunkTree → ChunkTree → Type 0
ReadsAs strict t u =
    (chunk_row strict (chunk_tlv t).first (chunk_tlv t).second).means (zeroed (chunk_tlv t).value) u

-- the same of each chunk, one for one
abbrev pub ReadAs : Bool → List ChunkTree → List ChunkTree → Type 0
ReadAs strict [] [] = Unit {0}
ReadAs strict (t ∷ ts) (u ∷ us) = ReadsAs strict t u × ReadAs strict ts us
ReadAs strict [] (u ∷ us) = ⊥
ReadAs strict (t ∷ ts) [] = ⊥

-- an output after an item was written at its front, with zeros in its holes
abbrev pub with_item : Tlv → List ℕ → List ℕ
with_item t old = zeroed (image_of t) ++ drop (size_of t) old
