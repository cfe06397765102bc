-- A walk over the chunks of a packet in its bytes: one chunk more.
use Rattle.std.proofs.Common.{◌≡◌, ◌+◌, ◌++◌, ℕ, List, [], ◌∷◌, Option, refl, sym, ap, ◌∙◌, arith}
use Rattle.dcsctp_wire.specs.Caller.{DataChunkTree as Tree}
use Rattle.dcsctp_wire.specs.RawChunk.{RawChunk}
use Rattle.dcsctp_wire.specs.Fault.{Length, Padding, Value}
use Rattle.dcsctp_wire.specs.ChunkParseError.TheVariants.{OutOfMemory}
use Rattle.dcsctp_wire.specs.Chunk.{ChunkTree, view, views}
use Rattle.dcsctp_wire.specs.Packet.{PacketFault, Size, Checksum, Chunk as ChunkFault, packet_error_of}
use Rattle.dcsctp_wire.specs.declared.packet.chunk.Chunk.{Chunk}
use Rattle.dcsctp_wire.specs.declared.packet.sctp_packet.PacketParseError.TheVariants.{FailedParseChunk}
use Rattle.dcsctp_borrowed.specs.RawChunks.{RawMeans, MeanChunks, MeansFirstChunk}
use Rattle.dcsctp_borrowed.specs.UserData.{data_of}
use Rattle.test_callers.specs.Payload.{size_of, payload_sizes}

-- ---- sizes

-- the sizes of the payloads that were gone over, and of those that are left
abbrev pub IsSized : ℕ → List ℕ → ℕ → Type 0
IsSized size bytes sum =
    (left : List ChunkTree) × MeanChunks bytes left × (size + payload_sizes left ≡ sum)

pub next_sized : (raw : RawChunk) (bytes left : List ℕ) (n m sum : ℕ) (o : Option Tree)
    → ((all : List ChunkTree) → MeanChunks bytes all → MeansFirstChunk raw left all)
    → ((t : ChunkTree) → RawMeans raw t → o ≡ data_of t) → size_of o ≡ m → IsSized n bytes sum
    → IsSized (n + m) left sum
next_sized raw bytes left n m sum o means reads size h =
    let f = means h.0 h.1 in
    let split : payload_sizes h.0 ≡ size_of (data_of f.first) + payload_sizes f.others =
    ap payload_sizes f.split in
    let same : size_of o ≡ size_of (data_of f.first) = ap size_of (reads f.first f.means) in
    let sum = h.2 in
    (f.others, f.mean, omega (arith, split, same, size, sum))

-- ---- chunks that are built

-- the chunks that were built, and after them those that the bytes mean, are all
abbrev pub IsBuilt : List Chunk → List ℕ → List ChunkTree → Type 0
IsBuilt built bytes all =
    (left : List ChunkTree) × MeanChunks bytes left × (views built ++ left ≡ all)

one_more : (built : List Chunk) (chunk : Chunk) (ts : List ChunkTree) → views (built ++ chunk ∷ [])
    ++ ts ≡ views built ++ view chunk ∷ ts
one_more [] chunk ts = refl
one_more (c ∷ cs) chunk ts = ap (λ (x : List ChunkTree). view c ∷ x) (one_more cs chunk ts)

pub next_built : (raw : RawChunk) (bytes left : List ℕ) (built : List Chunk) (chunk : Chunk)
    (all : List ChunkTree) → ((all : List ChunkTree) → MeanChunks bytes all
    → MeansFirstChunk raw left all)
    → ((t : ChunkTree) → RawMeans raw t → view chunk ≡ t) → IsBuilt built bytes all
    → IsBuilt (built ++ chunk ∷ []) left all
next_built raw bytes left built chunk all means reads h =
    let f = means h.0 h.1 in
    let same : view chunk ≡ f.first = reads f.first f.means in (
      f.others,
      f.mean,
      one_more built chunk f.others ∙ ap (λ (t : ChunkTree). views built
          ++ t ∷ f.others) same ∙ ap (λ (ts : List ChunkTree). views built ++ ts) (sym f.split)
          ∙ h.2,
    )

-- no fault is that memory ran out
pub no_memory : (e : PacketFault) → packet_error_of e ≡ FailedParseChunk OutOfMemory → ⊥
no_memory Size h = cc
no_memory Checksum h = cc
no_memory (ChunkFault Length) h = cc
no_memory (ChunkFault Padding) h = cc
no_memory (ChunkFault Value) h = cc
