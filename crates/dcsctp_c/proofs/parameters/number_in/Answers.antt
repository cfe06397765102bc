use Rattle.dcsctp_c.proofs.NumberRows.{parameter_number_there, cause_number_there}
use Rattle.dcsctp_c.proofs.parameters.number_in.Goals as goal

pub returns-clause-parameters : goal.returns-clause-parameters
returns-clause-parameters c tree n m e =
    parameter_number_there c.args.bytes.now c.args.parameter.now tree n m e

pub returns-clause-causes : goal.returns-clause-causes
returns-clause-causes c tree n m e =
    cause_number_there c.args.bytes.now c.args.parameter.now tree n m e
