-- There are as many fragments as there were, and messages were added that are over by the fate.
use Rattle.std.proofs.Common.{◌≡◌}
use Rattle.std.specs.Prelude.{vec_len}
use Rattle.dump_messages.specs.Fates.{AddsBy}
use Rattle.dump_messages.proofs.messages.outgoing.Outgoing.end_some.Given as goal

abbrev pub invariant-loop-place : goal.invariant-loop-place
invariant-loop-place l =
    AddsBy l.fn.fate l.fn.ended.list.items l.ended.list.items
    × (vec_len l.self.fragments ≡ vec_len l.initial.self.fragments)
