-- What the probes return: numbers of the packet that bytes are, whatever its checksum
-- field holds (RFC 9260 section 3).
use Rattle.std.specs.Prelude.{◌≡◌, ◌⊎◌, ℕ, List, [], ◌∷◌, ◌++◌, Ok, length, take, drop}
use Rattle.dcsctp_chunk.specs.Cover.{Covers, IsRuns}
use Rattle.dcsctp_chunk.specs.Sack as sack
use Rattle.dcsctp_chunk.specs.declared.sack_chunk.GapAckBlock.{GapAckBlock}
use Rattle.dcsctp_wire.specs.Canonical.{canonical}
use Rattle.dcsctp_wire.specs.Chunk.{ChunkTree, Sack}
use Rattle.dcsctp_wire.specs.Packet.{Meaning, PacketTree, Answer, IsPacket}
use Rattle.test_callers.specs.declared.probes.TheConstants.{ANY_CHECKSUM}

-- the bytes begin with packets of these sizes, one after the other
abbrev pub ArePackets : List ℕ → List ℕ → Type 0
ArePackets bytes [] = Unit {0}
ArePackets bytes (size ∷ sizes) =
    IsPacket (take size bytes) 0 ANY_CHECKSUM × ArePackets (drop size bytes) sizes

-- zero, or what a packet gives: the one that the bytes are
abbrev pub IsZeroOr : (Meaning → ℕ → Type 0) → List ℕ → ℕ → Type 0
IsZeroOr Gives bytes n =
    (n ≡ 0) ⊎ ((p : PacketTree) × Answer bytes 0 ANY_CHECKSUM (Ok p) × Gives p.meaning n)

-- how many chunks it has
abbrev pub IsChunkCount : Meaning → ℕ → Type 0
IsChunkCount m n = n ≡ length m.chunks

-- how many bytes its canonical packet has
abbrev pub IsCanonicalSize : Meaning → ℕ → Type 0
IsCanonicalSize m n = n ≡ length (canonical m)

-- the first `n` of these bytes are its canonical packet
abbrev pub BeginsCanonical : List ℕ → Meaning → ℕ → Type 0
BeginsCanonical output m n = take n output ≡ canonical m

-- how many runs the blocks of its last chunk cover, a SACK (RFC 9260 section 3.3.4)
abbrev pub IsRunCount : Meaning → ℕ → Type 0
IsRunCount m n =
    (before : List ChunkTree) × (s : sack.Tree) × (runs : List GapAckBlock)
    × (m.chunks ≡ before ++ Sack s ∷ []) × IsRuns runs (Covers s.blocks) × (n ≡ length runs)
