use Rattle.std.proofs.Common.{◌^◌, ◌-◌, arith}
use Rattle.std.proofs.lemmas.Grind.{common_steps}
use Rattle.std.proofs.Math.Nat.{div-le_self}
use Rattle.dump_command.proofs.Powers.{coarse, fine, finest}
use Rattle.dump_command.proofs.text.clock.of_ticks.Goals as goal

pub nonzero_div-result : goal.nonzero_div-result
nonzero_div-result c = c.power_of_ten-in-10-to-28.ensures.positive

pub returns-in-0-to-9 : goal.returns-in-0-to-9
returns-in-0-to-9 c =
    let e = coarse c.args.ticks c.args.resolution (omega arith) in
    let p = c.power_of_ten.ensures.value in
    let s = c.checked_mul.ensures in
    grind (arith, common_steps, e, p, s)

pub returns-in-10-to-28 : goal.returns-in-10-to-28
returns-in-10-to-28 c =
    let e = fine c.args.ticks c.args.resolution (omega arith) in
    let p = c.power_of_ten-in-10-to-28.ensures.value in
    let s = div-le_self c.args.ticks (10 ^ (c.args.resolution - 9)) in
    grind (arith, common_steps, e, p, s)

pub returns-in-29-to-127 : goal.returns-in-29-to-127
returns-in-29-to-127 c =
    let e = finest c.args.ticks c.args.resolution (omega (arith, c.ranges.ticks)) (omega arith) in
    grind (arith, common_steps, e)
