-- A chunk that is known to mean one: the list that lies in it, and which chunks come next.
use Rattle.std.proofs.Common.{◌≡◌, ℕ, List, Option, Some, None, sym, subst, ◌∙◌}
use Rattle.dcsctp_tlv.{specs.Frame.{lenient}, specs.Level.{Level, HasMeaning, MeansSome}, specs.Number.{AreBytes}, proofs.Checks.{rest_bytes}}
use Rattle.dcsctp_chunk.specs.declared.raw_chunk.RawChunk.{RawChunk}
use Rattle.dcsctp_wire.specs.Chunk.{ChunkTree, chunks, chunk_row}
use Rattle.dcsctp_borrowed.specs.{Front.{MeansList}, RawChunks.{GivesNext, RawMeans}}

-- the list that lies at this place, where the chunk means one
pub listed : {T : Type 0} (level : Level T) (rest : List ℕ) (ts : Option (List T))
    → MeansList level (Some rest) ts → MeansSome level rest
listed level rest (Some trees) m = (trees, m)
listed level rest None m = absurd m

-- what lies at the place of the list in a chunk that was seen as this one means the tree's list
pub list_at : {T : Type 0} (level : Level T) (place : ℕ → List ℕ → Option (List ℕ))
    (list_of : ChunkTree → Option (List T)) → ((typ flags : ℕ) (value : List ℕ) (t : ChunkTree)
    → (chunk_row lenient typ flags).means value t → MeansList level (place typ value) (list_of t))
    → (raw seen : RawChunk) → raw ≡ seen → (found : Option (List ℕ))
    → found ≡ place raw.typ raw.value.now → (t : ChunkTree) → RawMeans seen t
    → MeansList level found (list_of t)
list_at level place list_of there raw seen same found e t means =
    subst (λ (p : Option (List ℕ)). MeansList level p (list_of t)) (sym e)
    (there raw.typ raw.flags raw.value.now t
    (subst (λ (r : RawChunk). RawMeans r t) (sym same) means))

-- ---- the next chunk of bytes that mean chunks

abbrev Known : List ℕ → Type 0
Known bytes = MeansSome (chunks lenient) bytes × AreBytes bytes

-- it means a chunk
pub first_known : (bytes left : List ℕ) (raw : RawChunk) → Known bytes
    → GivesNext bytes (Some raw) left
    → HasMeaning (chunk_row lenient raw.typ raw.flags) raw.value.now
first_known bytes left raw known next =
    let f = next.2.means known.0.0 known.0.1 in (f.first, f.means)

-- and what is left means chunks
pub others_known : (bytes left : List ℕ) (raw : Option RawChunk) → Known bytes
    → GivesNext bytes raw left → Known left
others_known bytes left (Some raw) known next =
    let f = next.2.means known.0.0 known.0.1 in (
      (f.others, f.mean),
      subst (λ (b : List ℕ). AreBytes b) (sym next.2.rest) (rest_bytes bytes known.1),
    )
others_known bytes left None known next = subst Known (next.none ∙ sym next.stays) known
