use Rattle.std.proofs.Common.{◌∙◌, ap, sym}
use Rattle.dcsctp_tlv.specs.Frame.{are_zeros}
use Rattle.dcsctp_receive.specs.SharedKey.{vector_number}
use Rattle.dcsctp_receive.proofs.Vectors.{longer_is_greater, same_rest, same_order}
use Rattle.dcsctp_receive.proofs.shared_key.compare_vectors.Goals as goal

pub returns-then-not-are_zeros : goal.returns-then-not-are_zeros
returns-then-not-are_zeros c =
    longer_is_greater c.saturating_sub.result c.args.one.now c.args.other.now
    c.saturating_sub.ensures (λ i. (c.type_inv.one i).fits) (λ i. (c.type_inv.other i).fits)
    (ap are_zeros (sym c.split_at.ensures.front) ∙ sym c.if-not-are_zeros.ensures)

pub returns-then-not-are_zeros-2 : goal.returns-then-not-are_zeros-2
returns-then-not-are_zeros-2 c =
    longer_is_greater c.saturating_sub-2.result c.args.other.now c.args.one.now
    c.saturating_sub-2.ensures (λ i. (c.type_inv.other i).fits) (λ i. (c.type_inv.one i).fits)
    (ap are_zeros (sym c.split_at-2.ensures.front) ∙ sym c.if-not-are_zeros-2.ensures)

pub returns : goal.returns
returns c =
    same_order c.compare_same_size.result
    (same_rest c.saturating_sub.result c.args.one.now
    (ap are_zeros (sym c.split_at.ensures.front) ∙ sym c.if-not-are_zeros.ensures)
    ∙ ap vector_number (sym c.split_at.ensures.back))
    (same_rest c.saturating_sub-2.result c.args.other.now
    (ap are_zeros (sym c.split_at-2.ensures.front) ∙ sym c.if-not-are_zeros-2.ensures)
    ∙ ap vector_number (sym c.split_at-2.ensures.back))
    c.compare_same_size.ensures
