use Rattle.std.proofs.Common.{◌<◌, ◌≤◌, sym, ap, arith}
use Rattle.std.proofs.lemmas.Bool.{le-leb, lt-leb}
use Rattle.dcsctp_borrowed.specs.Part.{part_of}
use Rattle.dcsctp_receive.specs.{Chunks.{items_of}, Unrecognized.{wholes, added_size}, Handling.{action_by}}
use Rattle.dcsctp_receive.proofs.reported.fit.Goals as goal

pub loop-item-preserved : goal.loop-item-preserved
loop-item-preserved c =
    omega (
      arith,
      c.loop-item.invariant,
      ap added_size c.in-Some.ensures.found,
      c.round_up_to_4-size.ensures,
      c.if-size-left.false,
    )

pub returns-then-size-left : goal.returns-then-size-left
returns-then-size-left c =
    let all = added_size (wholes (action_by c.args.handling) (items_of (part_of c.args.list))) in
    let more : c.args.room < all =
    omega (
      arith,
      c.loop-item.invariant,
      ap added_size c.in-Some.ensures.found,
      c.round_up_to_4-size.ensures,
      c.if-size-left.true,
    ) in
    sym (lt-leb all c.args.room more)

pub returns : goal.returns
returns c =
    let all = added_size (wholes (action_by c.args.handling) (items_of (part_of c.args.list))) in
    let fits : all ≤ c.args.room =
    omega (arith, c.loop-item.invariant, ap added_size c.in_default.ensures.none) in
    sym (le-leb all c.args.room fits)
