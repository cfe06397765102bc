-- The channels have what they had before the chunks were looked at.
use Rattle.std.proofs.Common.{◌≡◌}
use Rattle.dump_messages.specs.Channels.{AreAlike}
use Rattle.dump_messages.proofs.channels.Channels.see.Given as goal

abbrev pub invariant-loop-chunk : goal.invariant-loop-chunk
invariant-loop-chunk l =
    (l.self.others ≡ l.initial.self.others) × AreAlike l.initial.self.list.items l.self.list.items
