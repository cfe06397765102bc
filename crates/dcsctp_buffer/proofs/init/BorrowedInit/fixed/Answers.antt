use Rattle.std.proofs.Common.{arith}
use Rattle.dcsctp_buffer.proofs.init.BorrowedInit.fixed.Goals as goal

pub returns-clause-width : goal.returns-clause-width
returns-clause-width c = record {
  tag = omega arith;
  window = omega arith;
  outbound = omega arith;
  inbound = omega arith;
  tsn = omega arith;
  each = tt;
}
