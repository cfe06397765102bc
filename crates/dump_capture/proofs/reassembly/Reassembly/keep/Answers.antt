use Rattle.std.proofs.Common.{[], ◌∷◌, ◌++◌, arith}
use Rattle.std.proofs.lemmas.Grind.{common_steps}
use Rattle.dump_capture.specs.Reassembly.{AreKept}
use Rattle.std.proofs.lemmas.List.Elements.{All-same, All-push}
use Rattle.dump_capture.proofs.reassembly.Reassembly.keep.Goals as goal

pub returns-in_err-push : goal.returns-in_err-push
returns-in_err-push c = λ fs all one.
    let room = c.make_room.ensures fs all in record {
      each = All-same (AreKept fs) _ _ c.in_err-push.ensures.items room.0.each;
      few = grind (arith, common_steps);
    }

pub returns : goal.returns
returns c = λ fs all one.
    let room = c.make_room.ensures fs all in record {
      each = All-same (AreKept fs) _ (c.make_room.new.self.packets.items ++ c.args.packet ∷ [])
          c.in_ok-push.ensures.items (All-push (AreKept fs) _ _ room.0.each one);
      few = grind (arith, common_steps);
    }
