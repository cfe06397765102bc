-- The channels have what they had before the parameters of a RE-CONFIG were looked at.
use Rattle.std.proofs.Common.{◌≡◌}
use Rattle.dump_messages.specs.Channels.{AreAlike}
use Rattle.dump_messages.proofs.channels.Channels.note.Given as goal

abbrev pub invariant-loop-parameter : goal.invariant-loop-parameter
invariant-loop-parameter l =
    (l.self.others ≡ l.initial.self.others) × AreAlike l.initial.self.list.items l.self.list.items
