use Rattle.std.proofs.Common.{arith}
use Rattle.dcsctp_buffer.proofs.idata.BorrowedIData.fixed.Goals as goal

pub returns-clause-width : goal.returns-clause-width
returns-clause-width c = record {
  tsn = omega arith;
  stream = rw (← c.id.ensures) (let h = c.id.type_inv in omega (arith, h));
  ssn = omega arith;
  mid = omega arith;
  fsn = omega arith;
  ppid = omega arith;
  payload = c.bytes_in_width.ensures;
}
