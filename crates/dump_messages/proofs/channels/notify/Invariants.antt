-- The channels have what they had.
use Rattle.std.proofs.Common.{◌≡◌}
use Rattle.std.specs.Prelude.{vec_len}
use Rattle.dump_messages.specs.Channels.{AreAlike}
use Rattle.dump_messages.proofs.channels.notify.Given as goal

abbrev pub invariant-loop-place : goal.invariant-loop-place
invariant-loop-place l =
    (vec_len l.list ≡ vec_len l.initial.list) × AreAlike l.initial.list.items l.list.items
