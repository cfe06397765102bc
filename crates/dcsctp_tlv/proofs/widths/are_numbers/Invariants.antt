-- The numbers so far fit, and those that are left decide.
use Rattle.std.{proofs.Common.{drop, ◌<◌, ◌^◌}, specs.List.{AllByRecursion}}
use Rattle.dcsctp_tlv.proofs.widths.are_numbers.Given as goal

abbrev pub invariant-loop-number : goal.invariant-loop-number
invariant-loop-number l = AllByRecursion (λ n. n < 2 ^ 16) (drop l.number-index l.numbers)
    → AllByRecursion (λ n. n < 2 ^ 16) l.numbers
