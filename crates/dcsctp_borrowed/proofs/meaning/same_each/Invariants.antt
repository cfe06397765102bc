use Rattle.std.proofs.Common.{◌≡◌, ◌↔◌, ◌*◌, ◌-◌, drop}
use Rattle.dcsctp_borrowed.specs.Rewritten.{streams_again}
use Rattle.dcsctp_borrowed.proofs.meaning.same_each.Given as goal

abbrev pub invariant-loop-i : goal.invariant-loop-i
invariant-loop-i l =
    (streams_again l.count l.left ≡ streams_again l.count l.right)
    ↔ (streams_again (l.count - l.i) (drop (8 * l.i) l.left)
    ≡ streams_again (l.count - l.i) (drop (8 * l.i) l.right))
