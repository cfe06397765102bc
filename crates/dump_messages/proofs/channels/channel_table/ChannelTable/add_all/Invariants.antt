-- The messages before this one were counted.
use Rattle.std.proofs.Common.{◌≡◌, ◌+◌, ◌<◌, ◌^◌, ℕ, take}
use Rattle.dump_messages.specs.ChannelTables.{channels_of, messages_in, messages_for}
use Rattle.dump_messages.proofs.channels.channel_table.ChannelTable.add_all.Given as goal

abbrev pub invariant-loop-one : goal.invariant-loop-one
invariant-loop-one l =
    (k : ℕ) → messages_in (channels_of l.initial.self k) + messages_for k l.ended < 2 ^ 64
    → messages_in (channels_of l.self k)
    ≡ messages_in (channels_of l.initial.self k) + messages_for k (take l.one-index l.ended)
