-- Each kind of chunk reads back.
use Rattle.std.proofs.Common.{Bool, refl}
use Rattle.dcsctp_tlv.{specs.Image.{zeroed}, specs.Table.{IsUnnamed}, proofs.KindLaws.{IsGood}, proofs.Tables.{of_others}, proofs.ReadsBack.{ReadsBack, zeroed-solid}, proofs.Satisfies.{back_of}}
use Rattle.dcsctp_chunk.specs.Unknown.{Tree as UnknownTree}
use Rattle.dcsctp_wire.{specs.Chunk.{ChunkTree, Unknown, table, chunks, chunk_row, entry, format, tlv as chunk_tlv}, proofs.ChunkRows.{satisfies_of}, proofs.ListRows.{KeepsAt}}

-- a chunk that can be written and read again
abbrev pub IsGoodChunk : ChunkTree → Type 0
IsGoodChunk t = IsGood (format t)

unknown_means : (strict : Bool) (u : UnknownTree) → IsUnnamed (table strict u.flags) u.typ
    → (chunk_row strict u.typ u.flags).means (zeroed (chunk_tlv (Unknown u)).value) (Unknown u)
unknown_means strict u h =
    of_others (λ row. row.means (zeroed (chunk_tlv (Unknown u)).value) (Unknown u))
    (table strict u.flags) u.typ _ h (rw (zeroed-solid u.value) refl)

means : (strict : Bool) (t : ChunkTree) → IsGoodChunk t
    → (chunk_row strict (chunk_tlv t).first (chunk_tlv t).second).means (zeroed (chunk_tlv t).value)
    t
means strict (Unknown u) good = unknown_means strict u good.formed
means strict t good = back_of KeepsAt strict (entry t) (satisfies_of t) good

pub chunks_read_back : (strict : Bool) → ReadsBack (chunks strict) chunk_tlv IsGoodChunk
chunks_read_back strict = record {
  sized = λ t. (format t).sized;
  fits = λ t good. good.encodable;
  means = means strict;
}
