-- All blocks are isolated if and only if those are that are left, after the end of the last one.
use Rattle.std.proofs.Common.{◌≡◌}
use Rattle.dcsctp_borrowed.specs.Part.{part_of}
use Rattle.dcsctp_receive.specs.Fields.{are_isolated}
use Rattle.dcsctp_receive.proofs.chunk_test.are_isolated.Given as goal

abbrev pub invariant-loop-left : goal.invariant-loop-left
invariant-loop-left l =
    are_isolated l.fn.count 0 (part_of l.fn.blocks) ≡ are_isolated l.left l.before (part_of l.rest)

abbrev pub decreases-loop-left : goal.decreases-loop-left
decreases-loop-left l = l.left
