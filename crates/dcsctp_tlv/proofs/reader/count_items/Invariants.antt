use Rattle.std.proofs.Common.{◌≡◌, ◌≤◌, ◌+◌, List, length}
use Rattle.dcsctp_tlv.specs.{Number.{AreBytes}, Frame.{PaddingRule, Item, AreItems}}
use Rattle.dcsctp_tlv.proofs.reader.count_items.Given as goal

abbrev pub invariant-loop-rest : goal.invariant-loop-rest
invariant-loop-rest l = record {
  each : (rule : PaddingRule) (items : List Item) → AreItems rule l.bytes items → (left : List Item)
      × (AreItems rule l.rest left × (l.count + length left ≡ length items));
  fits : AreBytes l.rest;
  few : l.count + length l.rest ≤ length l.bytes;
}

abbrev pub decreases-loop-rest : goal.decreases-loop-rest
decreases-loop-rest l = length l.rest
