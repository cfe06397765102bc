use Rattle.std.proofs.Common.{List, ℕ, ◌∷◌, sym, ap, ◌∙◌, arith}
use Rattle.dcsctp_borrowed.specs.Part.{part_of, item_of}
use Rattle.dcsctp_receive.specs.{Chunks.{items_of}, Unrecognized.{wholes}, Handling.{action_by}}
use Rattle.dcsctp_receive.proofs.Reports.{reported_first, reported_later, reported_none, whole_read, whole_fits, left_less}
use Rattle.dcsctp_receive.proofs.reported.next_reported.Goals as goal

pub overflow_add-item : goal.overflow_add-item
overflow_add-item c =
    omega (
      arith,
      whole_fits (part_of c.loop-item.rest) (item_of c.in-Some.item)
          c.in-Some.ensures.0 c.in-Some.ensures.1 c.are_bytes.ensures,
    )

pub returns-then-is_reported-clause-found : goal.returns-then-is_reported-clause-found
returns-then-is_reported-clause-found c =
    let action = action_by c.args.handling in
    let p = part_of c.loop-item.rest in
    let i = item_of c.in-Some.item in
    let left = part_of c.left_after-left.result in
    c.loop-item.invariant.same
    ∙ reported_first action p left i c.action-action.result c.stops.result c.in-Some.item.padded
    c.in-Some.ensures.0 c.in-Some.ensures.1 c.action-action.ensures c.stops.ensures
    c.in-Some.ensures.2
    c.left_after-left.ensures c.is_reported.result c.is_reported.ensures c.if-is_reported.true
    ∙ ap (λ (bytes : List ℕ). bytes ∷ wholes action (items_of left))
    (sym (whole_read p (part_of c.front-whole.result) i c.in-Some.ensures.0 c.in-Some.ensures.1
    c.are_bytes.ensures c.front-whole.ensures))

pub loop-item-preserved : goal.loop-item-preserved
loop-item-preserved c =
    let action = action_by c.args.handling in
    let p = part_of c.loop-item.rest in
    let i = item_of c.in-Some.item in
    let left = part_of c.left_after-left.result in
    let less = left_less action p left i c.action-action.result c.stops.result c.in-Some.item.padded
    c.in-Some.ensures.0 c.in-Some.ensures.1 c.action-action.ensures c.stops.ensures
    c.in-Some.ensures.2
    c.left_after-left.ensures in
    record {
      same = c.loop-item.invariant.same
          ∙ reported_later action p left i c.action-action.result c.stops.result
          c.in-Some.item.padded
          c.in-Some.ensures.0 c.in-Some.ensures.1 c.action-action.ensures c.stops.ensures
          c.in-Some.ensures.2 c.left_after-left.ensures c.is_reported.result
          c.is_reported.ensures c.if-is_reported.false;
      fewer = omega (arith, c.loop-item.invariant.fewer, less);
    }

pub returns-clause-none : goal.returns-clause-none
returns-clause-none c =
    c.loop-item.invariant.same
    ∙ reported_none (action_by c.args.handling) (part_of c.loop-item.rest) c.in_default.ensures
