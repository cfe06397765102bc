-- The kept form of a chunk is written alike, and its numbers lie in their widths.
use Rattle.std.{proofs.Common.{◌≡◌, ℕ, List, [], ◌∷◌, ◌++◌, refl, sym, ap, subst, ◌∙◌, replicate}, specs.List.{flat_map}}
use Rattle.dcsctp_tlv.{specs.Image.{zeroed, gap, Tlv, image_of, size_of, IsEncodable}, proofs.Satisfies.{kept_tlv_of, kept_width_of}}
use Rattle.dcsctp_wire.{specs.Chunk.{ChunkTree, Data, entry, tlv as chunk_tlv, IsPlaced, IsChunkEncodable, IsInWidth as IsChunkInWidth, kept as kept_chunk, all_kept as kept_chunks}, proofs.ChunkRows.{satisfies_of}, proofs.ListRows.{KeepsAt}, specs.Canonical.{canonical, padded_chunk}, specs.Packet.{Meaning}}

-- ---- it is written alike

pub kept_tlv : (t : ChunkTree) → chunk_tlv (kept_chunk t) ≡ chunk_tlv t
kept_tlv (Data c) = kept_tlv_of KeepsAt (entry (Data c)) (satisfies_of (Data c))
kept_tlv t = kept_tlv_of KeepsAt (entry t) (satisfies_of t)

-- a chunk with its padding, by how it is written
abbrev padded : Tlv → List ℕ
padded x = zeroed (image_of x) ++ replicate (gap (size_of x)) 0

body_kept : (ts : List ChunkTree)
    → flat_map padded_chunk (kept_chunks ts) ≡ flat_map padded_chunk ts
body_kept [] = refl
body_kept (t ∷ ts) =
    ap (λ (x : Tlv). padded x ++ flat_map padded_chunk (kept_chunks ts)) (kept_tlv t)
    ∙ ap (λ (xs : List ℕ). padded_chunk t ++ xs) (body_kept ts)

pub canonical_kept : (m : Meaning)
    → canonical (record m { chunks = kept_chunks m.chunks }) ≡ canonical m
unfolding canonical
canonical_kept m =
    ap (λ (chunks : List ℕ). canonical (record m { chunks = [] }) ++ chunks) (body_kept m.chunks)

kept_placed : (t : ChunkTree) → IsPlaced t → IsPlaced (kept_chunk t)
kept_placed (Data c) h = h
kept_placed t h = h

pub kept_encodable : (t : ChunkTree) → IsChunkEncodable t → IsChunkEncodable (kept_chunk t)
kept_encodable t h = (kept_placed t h.0, subst IsEncodable (sym (kept_tlv t)) h.1)

-- ---- it is in width

pub kept_width : (t : ChunkTree) → IsChunkInWidth t → IsChunkInWidth (kept_chunk t)
kept_width (Data c) h = kept_width_of KeepsAt (entry (Data c)) (satisfies_of (Data c)) h
kept_width t h = kept_width_of KeepsAt (entry t) (satisfies_of t) h
