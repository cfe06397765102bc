use Rattle.std.proofs.Common.{◌-◌, length, take, rules, arith, subst, length-take}
use Rattle.std.specs.Io.KnownBytes.{Consumes}
use Rattle.std.proofs.KnownBytes.{Consumes-trans, Consumes-kept}
use Rattle.dump_io.proofs.Devices.{take-put_mid_more}
use Rattle.dump_io.proofs.transfer.fill.Goals as goal

pub loop-filled-preserved : goal.loop-filled-preserved
loop-filled-preserved g c =
    let at = c.loop-filled.filled in
    let room = c.loop-filled.room in
    let more = take-put_mid_more at (length room - at) c.in-Ok.count room c.read.new.buf
    c.loop-filled.invariant.0 c.in-Ok.ensures.bound.0 in (
      search rules,
      subst (Consumes _ _) more (Consumes-trans _ _ _ _ _ c.loop-filled.invariant.1
          c.in-Ok.ensures.bytes.0),
      search rules,
    )

pub returns-in-Err-clause-none_lost : goal.returns-in-Err-clause-none_lost
returns-in-Err-clause-none_lost g c = (
  take c.loop-filled.filled c.loop-filled.room,
  omega (arith, length-take c.loop-filled.filled c.loop-filled.room),
  Consumes-kept _ _ _ _ c.loop-filled.invariant.1 c.in-Err.ensures.bytes,
)
