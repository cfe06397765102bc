use Rattle.std.proofs.Common.{◌+◌, ◌<◌, ◌^◌, ℕ, ◌∙◌, subst, arith}
use Rattle.dcsctp_tlv.{specs.Image.{Sizes}, proofs.Listed.{list_size-view, list_encodable}}
use Rattle.dcsctp_tlv.proofs.list.listed_encoded_size.Goals as goal

pub returns-in-Some : goal.returns-in-Some
returns-in-Some g c =
    let size = list_size-view _ _ g.T.ListedTlv.tree_tlv g.met.T.ListedTlv.same_tlv in
    let P : ℕ → Type 0 = λ n. Sizes c.item_size.result (4 + (c.args.leading + n) < 2 ^ 16)
    (4 + (c.args.leading + n)) in
    subst P (c.in-Some.ensures.1 ∙ size c.args.list.now) c.item_size.ensures

pub returns-in-None : goal.returns-in-None
returns-in-None g c = λ h.
    let size = list_size-view _ _ g.T.ListedTlv.tree_tlv g.met.T.ListedTlv.same_tlv in
    c.in-None.ensures (list_encodable _ _ g.met.T.ListedTlv.all_placed c.args.list.now
    (omega (arith, size, h)))
