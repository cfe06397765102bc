use Rattle.dcsctp_tlv.{specs.Frame.{lenient}, specs.Parameter.{parameters, views}, proofs.ParameterLaws.{parameters_lawful}, proofs.Exact.{list_exactly}}
use Rattle.dcsctp_tlv.proofs.parameter.parameters_from_bytes.Goals as goal

pub returns-clause-answer : goal.returns-clause-answer
returns-clause-answer c =
    list_exactly (parameters lenient) (parameters_lawful lenient) c.args.bytes.now
    (λ i. (c.type_inv.bytes i).fits) (λ list. views list.items) c.list_from_bytes.result
    c.list_from_bytes.ensures.answer (λ lacks. (c.list_from_bytes.ensures.memory lacks).0)
