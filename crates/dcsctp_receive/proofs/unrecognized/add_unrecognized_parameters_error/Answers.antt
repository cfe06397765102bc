use Rattle.std.proofs.Common.{refl, subst}
use Rattle.dcsctp_borrowed.specs.Part.{Part}
use Rattle.dcsctp_receive.specs.{Chunks.{items_of}, Unrecognized.{unrecognized_parameters, parameter_action, wholes, IsErrorAdded}}
use Rattle.dcsctp_receive.proofs.AddedItems.{holds_error}
use Rattle.dcsctp_receive.proofs.unrecognized.add_unrecognized_parameters_error.Goals as goal

pub returns-clause-held : goal.returns-clause-held
returns-clause-held c = λ ok m h.
    holds_error 8 (unrecognized_parameters c.args.known.now c.args.list.now)
    c.args.buffer.now c.add_error.new.buffer c.args.size.now c.add_error.new.size m
    (subst (λ (p : Part). IsErrorAdded 8
    (wholes (parameter_action c.args.known.now) (items_of p)) c.args.buffer.now c.args.size.now
    c.add_error.new.buffer c.add_error.new.size) c.list_part-parameters.ensures
    (c.in_ok-add_error.ensures.added refl)) h
