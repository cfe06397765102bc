use Rattle.dcsctp_borrowed.specs.Part.{item_of}
use Rattle.dcsctp_receive.proofs.Reports.{known_type, unknown_type}
use Rattle.dcsctp_receive.proofs.reported.parameter_action.Goals as goal

pub returns-then-contains : goal.returns-then-contains
returns-then-contains c =
    known_type c.args.known.now (item_of c.args.item) c.type_of-typ.result c.contains.result
    c.type_of-typ.ensures c.contains.ensures.value c.if-contains.true

pub returns-else-contains : goal.returns-else-contains
returns-else-contains c =
    unknown_type c.args.known.now (item_of c.args.item) c.type_of-typ.result c.contains.result
    c.unrecognized_parameter.result c.type_of-typ.ensures c.contains.ensures.value
    c.if-contains.false c.unrecognized_parameter.ensures
