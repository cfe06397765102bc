use Rattle.std.proofs.Common.{◌≡◌, ◌↔◌, length}
use Rattle.dcsctp_borrowed.specs.Rewritten.{all_again}
use Rattle.dcsctp_borrowed.proofs.meaning.same_items.Given as goal

abbrev pub invariant-loop-value : goal.invariant-loop-value
invariant-loop-value g l =
    (all_again g.C.Compare.again l.left ≡ all_again g.C.Compare.again l.right)
    ↔ (all_again g.C.Compare.again l.one ≡ all_again g.C.Compare.again l.other)

abbrev pub decreases-loop-value : goal.decreases-loop-value
decreases-loop-value g l = length l.one
