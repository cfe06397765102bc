use Rattle.std.proofs.Common.{◌≡◌, [], false, sym, subst, ap, ◌∙◌}
use Rattle.std.specs.List.{list_any}
use Rattle.dcsctp_receive.specs.{Chunks.{items_of}, Fields.{after_first}, ChunkTest.{meets_test}}
use Rattle.dcsctp_receive.proofs.ItemLists.{Looks, Looks-on, Looks-found, Looks-end}
use Rattle.dcsctp_receive.proofs.chunk_test.after_first.Goals as goal

pub returns-then-is_met : goal.returns-then-is_met
returns-then-is_met c =
    let next = c.in-Some.ensures.steps in
    let test = meets_test c.args.test in
    let found = Looks-found test c.items-items.result c.loop-chunk.items next.0
    (ap test (sym next.1) ∙ sym c.is_met.ensures ∙ c.if-is_met.true) c.loop-chunk.invariant in
    let all = c.items-items.ensures in (
      ap (λ p. list_any test (items_of p)) (sym all) ∙ found.0,
      ap (λ p. after_first test (items_of p)) (sym all) ∙ found.1
          ∙ ap items_of (sym next.2 ∙ sym c.rest.ensures),
    )

pub loop-chunk-preserved : goal.loop-chunk-preserved
loop-chunk-preserved c =
    let next = c.in-Some.ensures.steps in
    let test = meets_test c.args.test in
    subst (Looks test c.items-items.result) (sym next.2)
    (Looks-on test c.items-items.result c.loop-chunk.items next.0
    (ap test (sym next.1) ∙ sym c.is_met.ensures ∙ c.if-is_met.false) c.loop-chunk.invariant)

pub returns : goal.returns
returns c =
    let test = meets_test c.args.test in
    subst (λ p. (list_any test (items_of p) ≡ false) × (after_first test (items_of p) ≡ []))
    c.items-items.ensures
    (Looks-end test c.items-items.result c.loop-chunk.items c.in_default.ensures.steps.0
    c.loop-chunk.invariant)
