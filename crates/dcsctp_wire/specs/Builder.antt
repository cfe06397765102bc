-- The packet builder, as its callers see it: the packets are those of RFC 9260 section 3.
use Rattle.std.specs.{Prelude.{◌≡◌, ◌≢◌, ℕ, ◌-◌, ◌^◌, ◌<◌, ◌≤◌, Bool, true, false, List, [], ◌∷◌, length}, List.{AllByRecursion}, Int.{w32, to_be_bytes}}
use Rattle.dcsctp_tlv.specs.Image.{put}
use Rattle.dcsctp_wire.specs.{Chunk.{ChunkTree, IsChunkEncodable, IsInWidth as IsChunkInWidth}, Packet.{Meaning}, Canonical.{canonical}}

pub record BuilderState : Type 0 where
  pub source : ℕ
  pub destination : ℕ
  pub tag : ℕ
  -- the most bytes of a packet
  pub limit : ℕ
  pub writes_checksum : Bool
  -- the packet so far
  pub bytes : List ℕ
  -- how many bytes its memory has room for
  pub reserved : ℕ

-- ---- what it holds

-- the packet of these chunks, with the builder's ports and tag
abbrev pub meaning_with : BuilderState → List ChunkTree → Meaning
meaning_with b chunks =
    record { source = b.source; destination = b.destination; tag = b.tag; chunks = chunks }

-- the bytes are these chunks' canonical packet, within the limit; the chunks are values of the code
pub record HoldsPacket (b : BuilderState) (chunks : List ChunkTree) : Type 0 where
  pub each : AllByRecursion IsChunkEncodable chunks
  pub widths : AllByRecursion IsChunkInWidth chunks
  pub bytes : b.bytes ≡ canonical (meaning_with b chunks)
  pub within : length b.bytes ≤ b.limit

-- No chunks are held if and only if there are no bytes: a bare header holds no list. A relation,
-- since two chunks can have the same bytes: COOKIE ACK, and an Unknown chunk of its type.
abbrev pub Holds : BuilderState → List ChunkTree → Type 0
Holds b [] = b.bytes ≡ []
Holds b (c ∷ cs) = HoldsPacket b (c ∷ cs)

-- The bytes that chunks and their padding can still take: the limit, less the header, and less the
-- chunks that are held, which are the bytes after the header.
abbrev pub room : BuilderState → ℕ
room b = b.limit - 12 - (length b.bytes - 12)

-- ---- what is built

-- the word in the checksum field, at bytes 8 to 11 (RFC 9260 section 3.1), where there are bytes
abbrev pub with_checksum : ℕ → List ℕ → List ℕ
with_checksum word [] = []
with_checksum word (byte ∷ bytes) = put (byte ∷ bytes) 8 (to_be_bytes w32 word)

-- the field stays zero where the switch is off
abbrev pub checksummed : Bool → ℕ → List ℕ → List ℕ
checksummed true word bytes = with_checksum word bytes
checksummed false word bytes = bytes

abbrev pub built : BuilderState → ℕ → List ℕ
built b word = checksummed b.writes_checksum word b.bytes

-- ---- inside: for private functions alone, whose contracts can cite nothing but specs/

-- the bytes, which begin with a header: the packet of no chunks
abbrev pub begun : BuilderState → List ℕ → List ℕ
begun b [] = canonical (meaning_with b [])
begun b (byte ∷ bytes) = byte ∷ bytes

-- the ports and the tag lie in their fields' widths
pub record IsHeaderInWidth (b : BuilderState) : Type 0 where
  pub source : b.source < 2 ^ 16
  pub destination : b.destination < 2 ^ 16
  pub tag : b.tag < 2 ^ 32

-- Where there are bytes, the header is whole, and the limit was reserved; else nothing was.
pub record IsReserved (limit capacity : ℕ) (bytes : List ℕ) : Type 0 where
  pub none : bytes ≡ [] → capacity ≡ 0
  pub header : bytes ≢ [] → 12 ≤ length bytes
  pub room : bytes ≢ [] → limit ≤ capacity
