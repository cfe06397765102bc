use Rattle.std.proofs.Common.{◌-◌, length, take, arith, sym, length-take-le}
use Rattle.dump_io.proofs.Devices.{take-put_mid_more}
use Rattle.dump_io.proofs.window.read_after.Goals as goal

pub returns-in-Ok-clause-read : goal.returns-in-Ok-clause-read
returns-in-Ok-clause-read g c = (
  take c.in-Ok.count c.read.new.buf,
  length-take-le _ _ c.in-Ok.ensures.bound.0,
  sym (take-put_mid_more c.args.end (length c.args.bytes.now - c.args.end) c.in-Ok.count
      c.args.bytes.now c.read.new.buf (omega arith) c.in-Ok.ensures.bound.0),
  c.in-Ok.ensures.bytes.0,
)
