use Rattle.dcsctp_c.{specs.Writing.{declined}, proofs.Writings.{same_output}}
use Rattle.dcsctp_c.proofs.report.dcsctp_add_unrecognized_parameters_error.Goals as goal

pub returns-in-Err-clause-added : goal.returns-in-Err-clause-added
returns-in-Err-clause-added c =
    declined c.in-Err.error c.in-Err.ensures.declined
    (same_output _ _ _ _ c.in-Err.ensures.unchanged) c.write_code.ensures
