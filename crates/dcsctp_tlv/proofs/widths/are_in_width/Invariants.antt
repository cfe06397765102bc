-- The items so far fit, and those that are left decide.
use Rattle.std.{proofs.Common.{drop, map}, specs.List.{AllByRecursion}}
use Rattle.dcsctp_tlv.proofs.widths.are_in_width.Given as goal

abbrev pub invariant-loop-item : goal.invariant-loop-item
invariant-loop-item g l =
    AllByRecursion g.T.Widths.fits (map g.T.Widths.view (drop l.item-index l.items))
    → AllByRecursion g.T.Widths.fits (map g.T.Widths.view l.items)
