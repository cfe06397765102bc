use Rattle.std.proofs.Common.{◌≡◌, ◌≤◌, ◌-◌, List, drop, take, length}
use Rattle.dcsctp_tlv.specs.{Frame.{lenient}, Level.{MeansTrees, MeansSome}}
use Rattle.dcsctp_wire.specs.Chunk.{ChunkTree, chunks}
use Rattle.dcsctp_c.{specs.Row.{IsRowAt}, specs.declared.structs.DcsctpRow.{DcsctpRow}, specs.Part.{ChunkMeans}, proofs.Walks.{Walked, PassedTo}}
use Rattle.dcsctp_c.proofs.read.write_rows.Given as goal

abbrev pub invariant-loop-offset : goal.invariant-loop-offset
invariant-loop-offset l = record {
  within : l.offset ≤ length l.bytes;
  few : l.count ≤ l.offset;
  meant : MeansSome (chunks lenient) (drop l.offset l.bytes);
  rows : Walked (IsRowAt l.bytes) (λ (r : DcsctpRow). r.chunk.next) 12 (take l.count l.rows)
      l.count l.offset;
  means : (trees : List ChunkTree) → MeansTrees (chunks lenient) (drop 12 l.bytes) trees
      → PassedTo (chunks lenient) (λ n. drop n l.bytes)
      (λ (r : DcsctpRow). ChunkMeans l.bytes r.chunk) trees l.rows l.count l.offset;
  after : drop l.count l.rows ≡ drop l.count l.initial.rows;
}

abbrev pub decreases-loop-offset : goal.decreases-loop-offset
decreases-loop-offset l = length l.bytes - l.offset
