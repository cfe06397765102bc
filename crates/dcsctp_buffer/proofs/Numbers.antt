-- Numbers that lie in their widths.
use Rattle.std.{proofs.Common.{ℕ, suc, ◌<◌, Bool, true, false, List, [], ◌∷◌, get_or}, specs.List.{AllByRecursion}}
use Rattle.dcsctp_tlv.specs.Number.{AreBytes}
use Rattle.dcsctp_wire.specs.Chunk.{IsInWidth as IsChunkInWidth}
use Rattle.dcsctp_wire.specs.InitFields as init_fields
use Rattle.dcsctp_buffer.specs.{Heartbeat.{heartbeat}, Init.{init}}

pub all_below : (m : ℕ) (ns : List ℕ) → ((i : ℕ) → get_or ns i 0 < m)
    → AllByRecursion (λ n. n < m) ns
all_below m [] h = tt
all_below m (n ∷ ns) h = (h 0, all_below m ns (λ i. h (suc i)))

pub heartbeat_width : (is_ack : Bool) (info : List ℕ) → AreBytes info
    → IsChunkInWidth (heartbeat is_ack info)
heartbeat_width true info h = (h, tt)
heartbeat_width false info h = (h, tt)

pub init_width : (is_ack : Bool) (i : init_fields.Tree) → init_fields.IsInWidth i
    → IsChunkInWidth (init is_ack i)
init_width true i h = h
init_width false i h = h
