use Rattle.std.proofs.Common.{◌≡◌, length, map, take}
use Rattle.dump_capture.specs.Reassembly.{joined, AreFront, kept}
use Rattle.dump_capture.proofs.reassembly.PartialPacket.whole_size.Given as goal

-- those before are the front of a packet, and as long
abbrev pub invariant-loop-kept : goal.invariant-loop-kept
invariant-loop-kept l = record {
  front : AreFront (map (kept l.self.key) (take l.kept-index l.self.fragments.items)) l.more;
  size : l.end ≡ length (joined (map (kept l.self.key) (take l.kept-index l.self.fragments.items)));
}
