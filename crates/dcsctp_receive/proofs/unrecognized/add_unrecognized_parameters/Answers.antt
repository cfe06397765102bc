use Rattle.std.proofs.Common.{refl, subst}
use Rattle.dcsctp_borrowed.specs.Part.{Part}
use Rattle.dcsctp_receive.specs.{Chunks.{items_of}, Unrecognized.{unrecognized_parameters, parameter_action, wholes, AreAdded}}
use Rattle.dcsctp_receive.proofs.AddedItems.{holds_each}
use Rattle.dcsctp_receive.proofs.unrecognized.add_unrecognized_parameters.Goals as goal

pub returns-clause-held : goal.returns-clause-held
returns-clause-held c = λ ok m t before now.
    holds_each 8 c.args.start (unrecognized_parameters c.args.known.now c.args.list.now)
    c.args.buffer.now c.add_reported.new.buffer c.args.size.now c.add_reported.new.size m t
    (subst (λ (p : Part). AreAdded 8 c.args.start
    (wholes (parameter_action c.args.known.now) (items_of p)) c.args.buffer.now c.args.size.now
    c.add_reported.new.buffer c.add_reported.new.size) c.list_part-parameters.ensures
    (c.in_ok-add_reported.ensures.added refl)) before now
