-- How an endpoint answers a packet: an INIT with an INIT ACK (RFC 9260 section 5.1), and DATA with
-- a SACK (section 6.2).
use Rattle.std.specs.Prelude.{◌≡◌, ◌+◌, ◌≤◌, ℕ, List, [], ◌∷◌, Ok}
use Rattle.std.specs.List.{AllByRecursion}
use Rattle.dcsctp_crc32c.specs.Checksum.{packet_word}
use Rattle.dcsctp_wire.specs.Caller.{Meaning, ChunkTree, DataChunkTree, IsChunkEncodable, IsChunkWellFormed, all_kept, padded_size}
use Rattle.dcsctp_wire.specs.Chunk as tree
use Rattle.dcsctp_wire.specs.InitFields.{Tree as InitFieldsTree}
use Rattle.test_callers.specs.Sealed.{Verified}

-- one chunk, back to where a packet came from
abbrev pub back : Meaning → ℕ → ChunkTree → Meaning
back m tag chunk = record {
  source = m.destination;
  destination = m.source;
  tag = tag;
  chunks = chunk ∷ [];
}

-- the SACK of DATA up to this TSN, with this window, and of no gaps or duplicates
abbrev pub sack_of : ℕ → ℕ → ChunkTree
sack_of tsn window = tree.Sack (record { tsn = tsn; a_rwnd = window; blocks = []; duplicates = [] })

-- What an endpoint with this INIT ACK answers a packet with, where its peer's tag is `peer_tag`. A
-- packet with an INIT holds nothing else, has a tag of zero, and is answered under the tag that the
-- INIT asks for; every other has the receiver's own tag (sections 8.5 and 8.5.1).
pub data IsReply (own : InitFieldsTree) (peer_tag : ℕ) (m reply : Meaning) : Type 0 where
  to_init : (init : InitFieldsTree) → m.tag ≡ 0 → m.chunks ≡ tree.Init init ∷ []
      → reply ≡ back m init.tag (tree.InitAck own) → IsReply own peer_tag m reply
  to_data : (c : DataChunkTree) (others : List ChunkTree) → m.tag ≡ own.tag
      → m.chunks ≡ tree.Data c ∷ others
      → reply ≡ back m peer_tag (sack_of c.tsn own.window) → IsReply own peer_tag m reply

-- the chunks can be written, within the limit
pub record HasRoom (limit : ℕ) (m : Meaning) : Type 0 where
  pub each : AllByRecursion IsChunkEncodable m.chunks
  pub whole : 12 + padded_size m.chunks ≤ limit

-- The bytes are this packet with its CRC32c: that is how they are read, if what is written can be
-- read.
abbrev pub IsSealed : Meaning → List ℕ → Type 0
IsSealed m bytes =
    AllByRecursion IsChunkWellFormed (all_kept m.chunks)
    → Verified bytes (Ok (record {
      meaning = record m { chunks = all_kept m.chunks };
      checksum = packet_word bytes;
    }))
