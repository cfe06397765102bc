-- The paths have the packets that they had before the chunks were looked at.
use Rattle.std.proofs.Common.{◌≡◌}
use Rattle.dump_associations.specs.Paths.{packets_on, CountAlike}
use Rattle.dump_associations.proofs.paths.Paths.note_chunks.Given as goal

abbrev pub invariant-loop-chunk : goal.invariant-loop-chunk
invariant-loop-chunk l =
    (l.self.others ≡ l.initial.self.others)
    × (packets_on l.self.list.items ≡ packets_on l.initial.self.list.items)
    × CountAlike l.initial.self.list.items l.self.list.items
