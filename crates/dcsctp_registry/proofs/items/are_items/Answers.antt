use Rattle.std.proofs.Common.{refl, sym, ◌∙◌}
use Rattle.dcsctp_tlv.proofs.Lists.{is_nil, is_cons}
use Rattle.dcsctp_registry.proofs.Walks.{of_nil, of_none, of_rest}
use Rattle.dcsctp_registry.proofs.items.are_items.Goals as goal

pub returns-in_default : goal.returns-in_default
returns-in_default c =
    let rest = c.loop-rest.rest.now in
    sym (c.loop-rest.invariant ∙ of_none rest
    (λ frame. (let ok = c.in_default.ensures.frame.1 frame in cc))
    (is_cons rest c.is_empty.result c.is_empty.ensures c.loop-rest-test.true))

pub loop-rest-preserved : goal.loop-rest-preserved
loop-rest-preserved c =
    let rest = c.loop-rest.rest.now in
    rw c.in-Ok.ensures.rest (c.loop-rest.invariant ∙ of_rest rest (c.in-Ok.ensures.frame.0 refl)
    (is_cons rest c.is_empty.result c.is_empty.ensures c.loop-rest-test.true))

pub returns : goal.returns
returns c =
    let rest = c.loop-rest.rest.now in
    sym (c.loop-rest.invariant
    ∙ of_nil rest (is_nil rest c.is_empty.result c.is_empty.ensures c.loop-rest-test.false))
