use Rattle.std.proofs.Common.{sym, ap, ◌∙◌}
use Rattle.std.specs.Prelude.{find}
use Rattle.dcsctp_borrowed.specs.Part.{item_of}
use Rattle.dcsctp_receive.specs.Chunks.{items_of, is_wanted}
use Rattle.dcsctp_receive.proofs.ItemLists.{items_end, first_met, first_on}
use Rattle.dcsctp_receive.proofs.items.first.Goals as goal

pub returns-then-is_met : goal.returns-then-is_met
returns-then-is_met c =
    let steps = c.in-Some.ensures.steps in
    let test = is_wanted c.args.wanted in
    sym (ap (λ p. find test (items_of p)) (sym c.items-items.ensures) ∙ c.loop-item.invariant
    ∙ first_met test c.loop-item.items (item_of c.in-Some.item) steps.0 steps.1
    (sym c.is_met.ensures ∙ c.if-is_met.true))

pub loop-item-preserved : goal.loop-item-preserved
loop-item-preserved c =
    let steps = c.in-Some.ensures.steps in
    let test = is_wanted c.args.wanted in
    c.loop-item.invariant
    ∙ first_on test c.loop-item.items (item_of c.in-Some.item) steps.0 steps.1
    (sym c.is_met.ensures ∙ c.if-is_met.false)
    ∙ ap (λ p. find test (items_of p)) (sym steps.2)

pub returns : goal.returns
returns c =
    let test = is_wanted c.args.wanted in
    sym (ap (λ p. find test (items_of p)) (sym c.items-items.ensures) ∙ c.loop-item.invariant
    ∙ ap (find test) (items_end c.loop-item.items c.in_default.ensures.steps.0))
