use Rattle.std.proofs.Common.{ap, ap₂, ◌∙◌}
use Rattle.std.specs.List.{concat}
use Rattle.dcsctp_borrowed.specs.Part.{Part}
use Rattle.dcsctp_receive.specs.{Chunks.{items_of}, Unrecognized.{wholes}, Handling.{address_action}}
use Rattle.dcsctp_borrowed.specs.Grammar.{whole}
use Rattle.dcsctp_receive.proofs.NewAddresses.{listed}
use Rattle.dcsctp_receive.proofs.restart.new_addresses.Goals as goal

pub returns : goal.returns
returns c =
    ap₂ (λ (p q : Part). concat (wholes (address_action (items_of q)) (items_of p)))
    c.list_part.ensures c.list_part-2.ensures
    ∙ ap concat (listed (items_of (whole c.args.known.now)) (items_of (whole c.args.list.now)))
