use Rattle.std.proofs.Common.{refl, sym}
use Rattle.dcsctp_tlv.{specs.Fault.{Length, Padding}, proofs.Lists.{is_nil, is_cons}, proofs.Checks.{check_step, check_finish}, proofs.Places.{frame_fault, value_fault, padding_fault, at_place}}
use Rattle.dcsctp_tlv.proofs.reader.list_check.Goals as goal

pub returns-in_default-clause-found : goal.returns-in_default-clause-found
returns-in_default-clause-found g c =
    at_place (g.T.ReadableTlv.level c.args.strict) g.T.ReadableTlv.parts c.args.bytes.now Length _
    (frame_fault (g.T.ReadableTlv.level c.args.strict) c.args.bytes.now
    c.loop-rest.invariant.trees c.loop-rest.rest.now _ c.loop-rest.invariant.progress refl
    (is_cons c.loop-rest.rest.now c.is_empty.result c.is_empty.ensures c.loop-rest-test.true)
    (λ frame. (let ok = c.in_default.ensures.frame.1 frame in cc)))

pub returns-in-Err-clause-found : goal.returns-in-Err-clause-found
returns-in-Err-clause-found g c =
    value_fault (g.T.ReadableTlv.level c.args.strict) g.T.ReadableTlv.parts c.args.bytes.now
    c.loop-rest.invariant.trees c.loop-rest.rest.now c.in-Err.found _
    c.loop-rest.invariant.progress refl
    (c.in-Ok.ensures.frame.0 refl) (rw (← c.in-Ok.ensures.value) c.in-Err.ensures.found)

pub returns-then-not-accepts_padding-clause-found
    : goal.returns-then-not-accepts_padding-clause-found
returns-then-not-accepts_padding-clause-found g c =
    let found = c.in-Ok-check.ensures.found in
    at_place (g.T.ReadableTlv.level c.args.strict) g.T.ReadableTlv.parts c.args.bytes.now Padding _
    (padding_fault (g.T.ReadableTlv.level c.args.strict) c.args.bytes.now
    c.loop-rest.invariant.trees c.loop-rest.rest.now found.0 _ c.padding_fault.result
    c.loop-rest.invariant.progress refl
    (c.in-Ok.ensures.frame.0 refl) (rw (← c.in-Ok.ensures.value) found.1)
    (rw (← c.padding_parts-size.ensures.size, ← c.padding_parts-size.ensures.there)
    (sym c.if-not-accepts_padding.ensures)) c.padding_fault.ensures.place)

pub loop-rest-preserved : goal.loop-rest-preserved
loop-rest-preserved g c =
    let found = c.in-Ok-check.ensures.found in
    let few = rw found.2 at c.in-Ok-check.ensures.few in
    rw (c.in-Ok.ensures.rest, found.2) (check_step (g.T.ReadableTlv.level c.args.strict)
    g.T.ReadableTlv.parts c.args.bytes.now c.loop-rest.rest.now c.loop-rest.items
    c.loop-rest.parts found.0 c.loop-rest.invariant
    (c.in-Ok.ensures.frame.0 refl) (rw (← c.in-Ok.ensures.value) found.1)
    (rw (← c.padding_parts-size.ensures.size, ← c.padding_parts-size.ensures.there)
    (sym c.if-not-accepts_padding.ensures)) (rw (← c.in-Ok.ensures.value) few))

pub returns-clause-found : goal.returns-clause-found
returns-clause-found g c = check_finish (g.T.ReadableTlv.level c.args.strict) g.T.ReadableTlv.parts
    c.args.bytes.now c.loop-rest.rest.now c.loop-rest.items c.loop-rest.parts c.loop-rest.invariant
    (is_nil c.loop-rest.rest.now c.is_empty.result c.is_empty.ensures c.loop-rest-test.false)
