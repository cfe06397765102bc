use Rattle.std.proofs.Common.{◌≡◌, ◌++◌, map, take}
use Rattle.dump_capture.specs.Reassembly.{joined, kept}
use Rattle.dump_capture.proofs.reassembly.PartialPacket.push_data.Given as goal

-- the data of those before was added
abbrev pub invariant-loop-kept : goal.invariant-loop-kept
invariant-loop-kept l = l.bytes.items
    ≡ l.initial.bytes.items ++ joined (map (kept l.self.key)
    (take l.kept-index l.self.fragments.items))
