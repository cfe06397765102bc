use Rattle.dcsctp_c.{specs.Writing.{declined}, proofs.Writings.{same_output}}
use Rattle.dcsctp_c.proofs.report.dcsctp_add_new_addresses.Goals as goal

pub returns-in-Err : goal.returns-in-Err
returns-in-Err c =
    declined c.in-Err.error c.in-Err.ensures.declined
    (same_output _ _ _ _ c.in-Err.ensures.unchanged) c.write_code.ensures
