-- Chunks that are read in their bytes (RFC 9260 section 3.2): what each means there, and which
-- chunk is the next.
use Rattle.std.specs.Prelude.{◌≡◌, ℕ, List, Option, Some, None, slice_index}
use Rattle.dcsctp_tlv.specs.{Frame.{lenient}, Level.{MeansTrees}}
use Rattle.dcsctp_chunk.specs.declared.raw_chunk.RawChunk.{RawChunk}
use Rattle.dcsctp_wire.specs.Chunk.{ChunkTree, chunks, chunk_row}
use Rattle.dcsctp_borrowed.specs.Front.{MeansFirst, IsFront, IsAtEnd}

-- The chunk means this tree: what `Chunk::try_from` reads.
abbrev pub RawMeans : RawChunk → ChunkTree → Type 0
RawMeans raw tree = (chunk_row lenient raw.typ raw.flags).means raw.value.now tree

-- The bytes mean these chunks, to a reader that ignores padding.
abbrev pub MeanChunks : List ℕ → List ChunkTree → Type 0
MeanChunks bytes trees = MeansTrees (chunks lenient) bytes trees

-- Of these trees the chunk means the first, and the bytes that are left mean the others.
abbrev pub MeansFirstChunk : RawChunk → List ℕ → List ChunkTree → Type 0
MeansFirstChunk raw left all =
    MeansFirst (chunks lenient) (chunk_row lenient raw.typ raw.flags) raw.value.now left all

-- The next chunk of the bytes, and those that are left; nothing if and only if there are none.
abbrev pub GivesNext : List ℕ → Option RawChunk → List ℕ → Type 0
GivesNext bytes (Some raw) left =
    (raw.typ ≡ slice_index bytes 0) × (raw.flags ≡ slice_index bytes 1)
    × IsFront (chunks lenient) bytes (chunk_row lenient raw.typ raw.flags) raw.value.now left
GivesNext bytes None left = IsAtEnd (chunks lenient) bytes left
