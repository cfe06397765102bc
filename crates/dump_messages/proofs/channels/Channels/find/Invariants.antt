-- The message is of no channel before this one.
use Rattle.std.proofs.Common.{All, take}
use Rattle.dump_messages.specs.Channels.{IsOf}
use Rattle.dump_messages.proofs.channels.Channels.find.Given as goal

abbrev pub invariant-loop-place : goal.invariant-loop-place
invariant-loop-place l = All (λ c. ¬ (IsOf l.message c)) (take l.place l.self.list.items)
