-- What a walk over a packet in its bytes adds up, modulo 2^64: every number of DATA (RFC 9260
-- section 3.3.1), of I-DATA (RFC 8260 section 2.1) and of SACK (RFC 9260 section 3.3.4), and 1 for
-- any other chunk.
use Rattle.std.specs.Prelude.{ℕ, ◌+◌, ◌%◌, ◌^◌, Bool, List, [], ◌∷◌, length, if◌then◌else◌}
use Rattle.dcsctp_chunk.specs.Data as data_kind
use Rattle.dcsctp_chunk.specs.Sack as sack
use Rattle.dcsctp_chunk.specs.declared.sack_chunk.GapAckBlock.{GapAckBlock}
use Rattle.dcsctp_wire.specs.Chunk.{ChunkTree, Data, IData, Sack}

abbrev pub plus : ℕ → ℕ → ℕ
plus a b = (a + b) % 2 ^ 64

abbrev pub bit : Bool → ℕ
bit b = if b then 1 else 0

-- the payload counts by its length
abbrev pub with_data : ℕ → data_kind.Tree → ℕ
with_data n c =
    let d = c.user_data in
    plus (plus n (c.tsn + d.stream + d.ssn + d.mid + d.fsn + d.ppid + bit d.unordered
    + bit d.beginning + bit d.ending + bit c.immediate_ack)) (length d.payload)

abbrev pub with_blocks : ℕ → List GapAckBlock → ℕ
with_blocks n [] = n
with_blocks n (b ∷ bs) = with_blocks (plus n (b.start + b.end)) bs

abbrev pub with_duplicates : ℕ → List ℕ → ℕ
with_duplicates n [] = n
with_duplicates n (t ∷ ts) = with_duplicates (plus n t) ts

abbrev pub with_sack : ℕ → sack.Tree → ℕ
with_sack n s = with_duplicates (with_blocks (plus n (s.tsn + s.a_rwnd)) s.blocks) s.duplicates

abbrev pub with_chunk : ℕ → ChunkTree → ℕ
with_chunk n (Data c) = with_data n c
with_chunk n (IData c) = with_data n c
with_chunk n (Sack s) = with_sack n s
with_chunk n t = plus n 1

abbrev pub with_chunks : ℕ → List ChunkTree → ℕ
with_chunks n [] = n
with_chunks n (t ∷ ts) = with_chunks (with_chunk n t) ts
