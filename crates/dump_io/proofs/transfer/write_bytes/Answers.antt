use Rattle.std.proofs.Common.{rules, subst}
use Rattle.std.specs.Io.KnownBytes.{Appends}
use Rattle.std.proofs.KnownBytes.{Appends-trans}
use Rattle.dump_io.proofs.Devices.{take_more}
use Rattle.dump_io.proofs.transfer.write_bytes.Goals as goal

pub loop-written-preserved : goal.loop-written-preserved
loop-written-preserved g c =
    let more = take_more c.loop-written.written c.in-Ok.count c.args.bytes.now in (
      search rules,
      subst (Appends _ _) more (Appends-trans _ _ _ _ _ c.loop-written.invariant.1
          c.in-Ok.ensures.bytes),
      search rules,
    )
