use Rattle.std.proofs.Common.{◌≤◌, ℕ, arith, subst}
use Rattle.dump_packet.specs.Calendar.{days_of_month}
use Rattle.dump_packet.proofs.Calendar.{next_month, has_next}
use Rattle.dump_packet.proofs.report.time.month_of.Goals as goal

pub loop-length-preserved : goal.loop-length-preserved
loop-length-preserved c =
    let i = c.loop-length.invariant in
    let month = c.loop-length.month in
    let step = next_month c.args.year month i.from in
    let past : days_of_month c.args.year month ≤ c.loop-length.rest = subst (λ (n : ℕ). n ≤ c.loop-length.rest) i.length c.loop-length-test.true in
    record {
      from = omega (arith, i.from);
      to = has_next c.args.year month c.loop-length.rest c.args.days i.to i.is past c.requires;
      length = c.length_of_month-length-in-loop-length.ensures;
      is = omega (arith, i.is, i.length, step, past);
    }
