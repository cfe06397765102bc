use Rattle.std.proofs.Common.{length, arith}
use Rattle.dcsctp_tlv.proofs.{Lists.{is_nil, is_cons}, Checks.{first_item, frame_shrinks, rest_bytes, none_left, one_counted}}
use Rattle.dcsctp_tlv.proofs.reader.count_items.Goals as goal

pub frame_parts-requires : goal.frame_parts-requires
frame_parts-requires c =
    let left = c.loop-rest.invariant.each c.requires.0 c.requires.1.0 c.requires.1.1 in
    (first_item c.requires.0 c.loop-rest.rest.now left.0 c.loop-rest.invariant.fits
    (is_cons c.loop-rest.rest.now c.is_empty.result c.is_empty.ensures c.loop-rest-test.true)
    left.1.0).frame

pub loop-rest-smaller : goal.loop-rest-smaller
loop-rest-smaller c =
    let left = c.loop-rest.invariant.each c.requires.0 c.requires.1.0 c.requires.1.1 in
    let frame = (first_item c.requires.0 c.loop-rest.rest.now left.0 c.loop-rest.invariant.fits
    (is_cons c.loop-rest.rest.now c.is_empty.result c.is_empty.ensures c.loop-rest-test.true)
    left.1.0).frame in
    let shrinks = frame_shrinks c.loop-rest.rest.now frame in
    rw c.frame_parts.ensures.rest (omega (arith, shrinks, frame.low))

pub loop-rest-preserved : goal.loop-rest-preserved
loop-rest-preserved c =
    let rest = c.loop-rest.rest.now in
    let some = is_cons rest c.is_empty.result c.is_empty.ensures c.loop-rest-test.true in
    let fits = c.loop-rest.invariant.fits in
    let left = c.loop-rest.invariant.each c.requires.0 c.requires.1.0 c.requires.1.1 in
    let frame = (first_item c.requires.0 rest left.0 fits some left.1.0).frame in
    let shrinks = frame_shrinks rest frame in
    rw c.frame_parts.ensures.rest record {
      each = λ rule items are. (let old = c.loop-rest.invariant.each rule items are in
          one_counted rule rest old.0 c.loop-rest.count (length items) fits some old.1.0 old.1.1);
      fits = rest_bytes rest fits;
      few = omega (arith, shrinks, frame.low, c.loop-rest.invariant.few);
    }

pub returns : goal.returns
returns c = λ rule items are. (
    let left = c.loop-rest.invariant.each rule items are in
    none_left rule c.loop-rest.rest.now left.0 c.loop-rest.count (length items)
    (is_nil c.loop-rest.rest.now c.is_empty.result c.is_empty.ensures c.loop-rest-test.false)
    left.1.0 left.1.1)
