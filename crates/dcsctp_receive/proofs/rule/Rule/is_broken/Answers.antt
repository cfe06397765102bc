use Rattle.std.proofs.Common.{◌≡◌, ap, ◌∙◌, rules}
use Rattle.dcsctp_borrowed.specs.Part.{Part as ThePart, part_of}
use Rattle.dcsctp_receive.specs.Chunks.{chunk_part, items_of}
use Rattle.dcsctp_receive.specs.Rule.{breaks}
use Rattle.dcsctp_receive.proofs.ItemLists.{are_items}
use Rattle.dcsctp_receive.proofs.rule.Rule.is_broken.Goals as goal

pub returns-clause-looks : goal.returns-clause-looks
returns-clause-looks c =
    are_items (chunk_part (record { bytes = c.args.bytes.now; size = c.args.size }))

pub returns-clause-broken : goal.returns-clause-broken
returns-clause-broken c =
    let packet : ThePart = record { bytes = c.args.bytes.now; size = c.args.size } in
    let packet_is : part_of c.packet.result ≡ packet = search rules in
    c.is_broken_by.ensures
    ∙ ap (λ p. breaks c.args.self p c.args.word c.args.known (items_of (chunk_part p))) packet_is
