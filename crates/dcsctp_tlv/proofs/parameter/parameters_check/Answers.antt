use Rattle.std.proofs.{Common.{Ok, Err, ap}, lemmas.Result.{err_from_is_err_and}}
use Rattle.dcsctp_tlv.{specs.declared.reader.Counts.{Counts}, specs.Parameter.{parameters}, proofs.ParameterLaws.{parameters_lawful}, proofs.Exact.{count_exactly}, proofs.Places.{fault_only}}
use Rattle.dcsctp_tlv.proofs.parameter.parameters_check.Goals as goal

pub returns-in_err-counts-clause-answer : goal.returns-in_err-counts-clause-answer
returns-in_err-counts-clause-answer c =
    let level = parameters c.args.strict in
    let bytes = c.args.bytes.now in
    let found = c.in_err-counts.field-0.0 in
    let p = err_from_is_err_and c.from_residual.result c.from_residual.ensures.1 in
    rw (p.1, p.2) (count_exactly level (parameters_lawful c.args.strict) bytes
    (λ i. (c.type_inv.bytes i).fits) (Err found.fault) (fault_only level (λ t. 1) bytes found
    c.in_err-counts.ensures.found))

pub returns-clause-answer : goal.returns-clause-answer
returns-clause-answer c =
    let f = c.in_ok-counts.ensures.found in
    count_exactly (parameters c.args.strict) (parameters_lawful c.args.strict) c.args.bytes.now
    (λ i. (c.type_inv.bytes i).fits) (Ok c.in_ok-counts.counts.items) (f.0, f.1, ap (λ (n : Counts). n.items) f.2)
