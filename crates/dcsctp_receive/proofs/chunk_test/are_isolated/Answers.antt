use Rattle.std.proofs.Common.{◌≡◌, ◌-◌, sym, ap, ◌∙◌, arith, rules}
use Rattle.dcsctp_borrowed.specs.Part.{part_of, after}
use Rattle.dcsctp_receive.specs.Fields.{are_isolated, block_end}
use Rattle.dcsctp_receive.proofs.Blocks.{are_isolated-next}
use Rattle.dcsctp_receive.proofs.chunk_test.are_isolated.Goals as goal

pub loop-left-preserved : goal.loop-left-preserved
loop-left-preserved c =
    let p = part_of c.loop-left.rest in
    let end_is : c.read_u16_be-end.result ≡ block_end p = search rules in
    let left = c.loop-left.left - 1 in
    c.loop-left.invariant
    ∙ are_isolated-next c.loop-left.left c.loop-left.before p (omega arith) (omega arith)
    (omega arith) (omega (arith, end_is))
    ∙ ap (λ end. are_isolated left end (after 4 p)) (sym end_is)
    ∙ ap (λ p. are_isolated left c.read_u16_be-end.result p) (sym c.after-rest.ensures)
