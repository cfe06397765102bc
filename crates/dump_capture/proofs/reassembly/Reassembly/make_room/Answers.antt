use Rattle.std.proofs.Common.{arith}
use Rattle.std.specs.List.{remove}
use Rattle.std.proofs.lemmas.Grind.{common_steps}
use Rattle.dump_capture.specs.Reassembly.{AreKept}
use Rattle.std.proofs.lemmas.List.Elements.{All-same}
use Rattle.dump_capture.proofs.Kept.{All-remove}
use Rattle.dump_capture.proofs.reassembly.Reassembly.make_room.Goals as goal

pub returns : goal.returns
returns c = λ fs all. (
  record {
    each = All-same (AreKept fs) _ (remove c.args.self.now.packets.items 0)
        c.remove.ensures.items (All-remove (AreKept fs) c.args.self.now.packets.items 0 all.each);
    few = grind (arith, common_steps);
  },
  grind (arith, common_steps),
)
