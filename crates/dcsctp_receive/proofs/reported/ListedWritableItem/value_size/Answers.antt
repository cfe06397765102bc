use Rattle.std.proofs.Common.{ℕ, List, length, ap, arith, length-append}
use Rattle.std.specs.List.{concat}
use Rattle.dcsctp_borrowed.specs.Part.{part_of}
use Rattle.dcsctp_receive.specs.{Chunks.{items_of}, Unrecognized.{wholes}, Handling.{action_by}}
use Rattle.dcsctp_receive.proofs.reported.ListedWritableItem.value_size.Goals as goal

pub loop-item-preserved : goal.loop-item-preserved
loop-item-preserved c =
    let left = wholes (action_by c.args.self.now.handling) (items_of (part_of c.in-Some.item.left)) in
    record {
      same = omega (
        arith,
        c.loop-item.invariant.same,
        ap (λ (all : List (List ℕ)). length (concat all)) c.in-Some.ensures.found,
        length-append c.in-Some.item.whole.bytes.now (concat left),
      );
      within = omega (arith, c.loop-item.invariant.within, c.in-Some.ensures.within);
    }
