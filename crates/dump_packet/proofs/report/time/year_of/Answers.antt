use Rattle.std.proofs.Common.{arith}
use Rattle.dump_packet.proofs.Calendar.{next_year, some_days}
use Rattle.dump_packet.proofs.report.time.year_of.Goals as goal

pub loop-length-preserved : goal.loop-length-preserved
loop-length-preserved c =
    let i = c.loop-length.invariant in
    let step = next_year c.loop-length.year i.from in
    let some = some_days c.loop-length.year in
    let past = c.loop-length-test.true in
    record {
      from = omega (arith, i.from);
      bounded = omega (arith, i.bounded, past, i.length, some);
      length = c.length_of_year-length-in-loop-length.ensures;
      is = omega (arith, i.is, i.length, step, past);
    }
