-- Of the first rules it is known whether they are broken.
use Rattle.std.proofs.Common.{get_or, false}
use Rattle.dcsctp_receive.specs.Rule.{broken}
use Rattle.dcsctp_receive.proofs.Marks.{Marks}
use Rattle.dcsctp_receive.proofs.rule.BrokenRules.of.Given as goal

abbrev pub invariant-loop-i : goal.invariant-loop-i
invariant-loop-i l =
    Marks
    (λ i. get_or (broken (record { bytes = l.bytes; size = l.size }) l.word l.known) i false)
    l.bits l.i
