use Rattle.std.proofs.Common.{length}
use Rattle.dcsctp_borrowed.proofs.ItemsRewritten.{WrittenAgain}
use Rattle.dcsctp_borrowed.proofs.canonical.put_items.Given as goal

abbrev pub invariant-loop-value : goal.invariant-loop-value
invariant-loop-value g l =
    WrittenAgain g.R.Rewrite.again l.list l.rest l.end l.fn.output l.output

abbrev pub decreases-loop-value : goal.decreases-loop-value
decreases-loop-value g l = length l.rest
