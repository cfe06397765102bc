use Rattle.std.proofs.Common.{◌∙◌}
use Rattle.dcsctp_c.proofs.parameters.dcsctp_number.Goals as goal

pub returns-clause-parameters : goal.returns-clause-parameters
returns-clause-parameters c tree n m e =
    let found = c.number_in.ensures.read ∙ c.number_in.ensures.parameters tree n m e in
    (rw found at c.put_found.ensures.done, rw found at c.put_found.ensures.output)
