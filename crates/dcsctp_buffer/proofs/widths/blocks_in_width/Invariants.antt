-- The blocks so far fit, and those that are left decide.
use Rattle.std.{proofs.Common.{drop}, specs.List.{AllByRecursion}}
use Rattle.dcsctp_chunk.specs.Sack.{IsBlockInWidth}
use Rattle.dcsctp_buffer.proofs.widths.blocks_in_width.Given as goal

abbrev pub invariant-loop-block : goal.invariant-loop-block
invariant-loop-block l =
    AllByRecursion IsBlockInWidth (drop l.block-index l.blocks)
    → AllByRecursion IsBlockInWidth l.blocks
