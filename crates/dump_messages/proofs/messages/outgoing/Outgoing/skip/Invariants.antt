-- There are no more fragments than there were, and messages were added that are over by the fate.
use Rattle.std.proofs.Common.{◌≤◌}
use Rattle.std.specs.Prelude.{vec_len}
use Rattle.dump_messages.specs.Fates.{AddsBy}
use Rattle.dump_messages.proofs.messages.outgoing.Outgoing.skip.Given as goal

abbrev pub invariant-loop-index : goal.invariant-loop-index
invariant-loop-index l =
    AddsBy l.fate l.fn.ended.list.items l.ended.list.items
    × (vec_len l.self.fragments ≤ vec_len l.fn.self.fragments)
