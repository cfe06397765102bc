use Rattle.std.proofs.Common.{◌-◌, length, arith}
use Rattle.dcsctp_borrowed.specs.Part.{part_of, item_of}
use Rattle.dcsctp_receive.specs.{Chunks.{items_of}, Unrecognized.{stop_offset}, Handling.{action_by}}
use Rattle.dcsctp_receive.proofs.Reports.{unshifted, stops_here, stops_later, stops_nowhere, after_less}
use Rattle.dcsctp_receive.proofs.reported.stop_offset.Goals as goal

pub loop-item-init : goal.loop-item-init
loop-item-init c = record {
  same = unshifted (stop_offset (action_by c.args.handling) (items_of (part_of c.args.list)))
      (length c.args.list.bytes.now - length c.args.list.bytes.now) (omega arith);
  fewer = omega arith;
}

pub returns-then-stops-clause-offset : goal.returns-then-stops-clause-offset
returns-then-stops-clause-offset c =
    stops_here (action_by c.args.handling) (part_of c.args.list) (part_of c.loop-item.rest)
    (item_of c.in-Some.item) c.action.result c.stops.result c.in-Some.ensures.0
    c.in-Some.ensures.1 c.action.ensures c.stops.ensures c.loop-item.invariant.fewer
    c.loop-item.invariant.same c.if-stops.true

pub loop-item-preserved : goal.loop-item-preserved
loop-item-preserved c =
    let p = part_of c.loop-item.rest in
    record {
      same = stops_later (action_by c.args.handling) (part_of c.args.list) p
          (item_of c.in-Some.item) c.action.result c.stops.result c.in-Some.ensures.0
          c.in-Some.ensures.1 c.action.ensures c.stops.ensures c.loop-item.invariant.fewer
          c.loop-item.invariant.same (part_of c.after-rest.result) c.in-Some.item.padded
          c.if-stops.false c.in-Some.ensures.2 c.after-rest.ensures;
      fewer = omega (
        arith,
        c.loop-item.invariant.fewer,
        after_less p (part_of c.after-rest.result) c.in-Some.item.padded c.in-Some.ensures.0
            c.in-Some.ensures.2 c.after-rest.ensures,
      );
    }

pub loop-item-smaller : goal.loop-item-smaller
loop-item-smaller c =
    after_less (part_of c.loop-item.rest) (part_of c.after-rest.result) c.in-Some.item.padded
    c.in-Some.ensures.0 c.in-Some.ensures.2 c.after-rest.ensures

pub returns-clause-offset : goal.returns-clause-offset
returns-clause-offset c =
    stops_nowhere (action_by c.args.handling) (part_of c.args.list) (part_of c.loop-item.rest)
    c.in_default.ensures c.loop-item.invariant.same
