-- The canonical packet of a meaning: the one form in which it is written, out of those that RFC
-- 9260 section 3 allows.
use Rattle.std.specs.{Prelude.{◌≡◌, ℕ, ◌+◌, ◌≤◌, List, [], ◌∷◌, ◌++◌, replicate}, List.{flat_map, AllByRecursion}, Int.{w16, w32, to_be_bytes}}
use Rattle.dcsctp_tlv.specs.{Frame.{round_up_to_4}, Image.{zeroed, gap, size_of, image_of}}
use Rattle.dcsctp_wire.specs.{Chunk.{ChunkTree, tlv as chunk_tlv, IsChunkEncodable}, Packet.{Meaning}, WellFormed.{IsInWidth, IsWellFormed}}

-- a chunk as written over zeros, and zeros up to a multiple of 4
abbrev pub padded_chunk : ChunkTree → List ℕ
padded_chunk t = zeroed (image_of (chunk_tlv t)) ++ replicate (gap (size_of (chunk_tlv t))) 0

-- the header with a checksum of zero, and the chunks
unfoldable pub canonical : Meaning → List ℕ
canonical m =
    to_be_bytes w16 m.source ++ (to_be_bytes w16 m.destination ++ (to_be_bytes w32 m.tag
    ++ (to_be_bytes w32 0 ++ flat_map padded_chunk m.chunks)))

-- the bytes of the chunks with their padding
abbrev pub padded_size : List ChunkTree → ℕ
padded_size [] = 0
padded_size (t ∷ ts) = round_up_to_4 (size_of (chunk_tlv t)) + padded_size ts

-- each chunk can be written, and the whole is the largest multiple of 4 that a packet can be, or
-- less than that
pub record Fits (m : Meaning) : Type 0 where
  pub each : AllByRecursion IsChunkEncodable m.chunks
  pub whole : 12 + padded_size m.chunks ≤ 65532

-- a meaning that has a canonical packet, which reads back
pub record HasCanonical (m : Meaning) : Type 0 where
  pub width : IsInWidth m
  pub formed : IsWellFormed m
  pub fits : Fits m

-- the bytes are the canonical packet of this meaning, and of no other that has one
pub record IsCanonicalOf (m : Meaning) (bytes : List ℕ) : Type 0 where
  pub has : HasCanonical m
  pub is : bytes ≡ canonical m
  pub one : (n : Meaning) → HasCanonical n → bytes ≡ canonical n → m ≡ n
