-- The messages that are over, counted of the channels of their associations.
use Rattle.std.specs.Prelude.{◌≡◌, ◌+◌, ◌<◌, ◌^◌, ℕ, List, Option, Some, None}
use Rattle.dump_messages.specs.ChannelTables.{channels_of, messages_in, messages_for}
use Rattle.dump_messages.specs.declared.channels.channel_table.ChannelTable.{ChannelTable}
use Rattle.dump_messages.specs.declared.messages.message.EndedMessage.{EndedMessage}

-- where channels are asked for, each is counted once, up to 2^64 - 1 of an association
abbrev pub CountsEnded : Option ChannelTable → List EndedMessage → Option ChannelTable → Type 0
CountsEnded (Some before) ended (Some after) =
    (k : ℕ) → messages_in (channels_of before k) + messages_for k ended < 2 ^ 64
    → messages_in (channels_of after k)
    ≡ messages_in (channels_of before k) + messages_for k ended
CountsEnded (Some before) ended None = ⊥
CountsEnded None ended after = after ≡ None
