-- The types of chunks: the first byte of each (RFC 9260 section 3.2).
use Rattle.std.specs.Prelude.{◌≡◌, ℕ, List, [], ◌∷◌, slice_index}
use Rattle.dcsctp_tlv.specs.Frame.{BeginsWithFrame, frame_rest}

pub data ChunkTypes : List ℕ → List ℕ → Type 0 where
  none : (bytes types : List ℕ) → bytes ≡ [] → types ≡ [] → ChunkTypes bytes types
  next : (bytes types others : List ℕ) → BeginsWithFrame bytes
      → ChunkTypes (frame_rest bytes) others → types ≡ slice_index bytes 0 ∷ others
      → ChunkTypes bytes types
