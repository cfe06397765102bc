use Rattle.std.proofs.Common.{◌<◌, ◌^◌, length}
use Rattle.dcsctp_borrowed.proofs.ItemsRewritten.{GoneOver}
use Rattle.dcsctp_borrowed.proofs.canonical.items_size.Given as goal

abbrev pub invariant-loop-value : goal.invariant-loop-value
invariant-loop-value g l = record {
  over : GoneOver g.R.Rewrite.again l.list l.rest l.end;
  small : l.end < 2 ^ 16;
}

abbrev pub decreases-loop-value : goal.decreases-loop-value
decreases-loop-value g l = length l.rest
