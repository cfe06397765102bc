-- What is kept of associations' channels, by their numbers.
use Rattle.std.specs.Prelude.{◌+◌, ◌==◌, ℕ, nat_eq, if◌then◌else◌, List, Option, Some, None, Box}
use Rattle.std.specs.List.{sum_by}
use Rattle.std.specs.HashMap.{get}
use Rattle.std.specs.declared.alloc.Global.{Global}
use Rattle.dump_messages.specs.Channels.{messages_seen, bytes_seen}
use Rattle.dump_messages.specs.declared.channels.Channels.{Channels}
use Rattle.dump_messages.specs.declared.channels.channel_table.ChannelTable.{ChannelTable}
use Rattle.dump_messages.specs.declared.messages.message.EndedMessage.{EndedMessage}

abbrev pub channels_of : ChannelTable → ℕ → Option (Box Channels Global)
channels_of t association = get nat_eq t.by_number association

-- the messages that are counted of them
abbrev pub messages_in : Option (Box Channels Global) → ℕ
messages_in None = 0
messages_in (Some c) = messages_seen c.value.list.items c.value.others

-- the bytes of user data in these
abbrev pub bytes_in : Option (Box Channels Global) → ℕ
bytes_in None = 0
bytes_in (Some c) = bytes_seen c.value.list.items c.value.others

-- how many of these messages are of an association
abbrev pub messages_for : ℕ → List EndedMessage → ℕ
messages_for association ended =
    sum_by (λ m. if m.message.association == association then 1 else 0) ended
