-- Of all chunks that meet the test, the first is among those that are left.
use Rattle.std.proofs.Common.{length}
use Rattle.dcsctp_receive.specs.ChunkTest.{meets_test}
use Rattle.dcsctp_receive.proofs.ItemLists.{Looks}
use Rattle.dcsctp_receive.proofs.chunk_test.after_first.Given as goal

abbrev pub invariant-loop-chunk : goal.invariant-loop-chunk
invariant-loop-chunk l = Looks (meets_test l.test) l.initial.items l.items

abbrev pub decreases-loop-chunk : goal.decreases-loop-chunk
decreases-loop-chunk l = length l.items.bytes
