-- Some chunk meets the test if and only if one of those that are left does.
use Rattle.std.proofs.Common.{length}
use Rattle.dcsctp_borrowed.specs.Part.{part_of}
use Rattle.dcsctp_receive.specs.ChunkTest.{meets_test}
use Rattle.dump_packet.proofs.Ahead.{LooksAhead}
use Rattle.dump_packet.proofs.filter.seen.some_ahead.Given as goal

abbrev pub invariant-loop-rest : goal.invariant-loop-rest
invariant-loop-rest l =
    LooksAhead (meets_test l.test) l.fn.ahead (part_of l.fn.chunks) l.left (part_of l.rest)

abbrev pub decreases-loop-rest : goal.decreases-loop-rest
decreases-loop-rest l = length l.rest.bytes.now
