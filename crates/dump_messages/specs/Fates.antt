-- What became of the messages that are added to a list.
use Rattle.std.specs.Prelude.{◌≡◌, ◌++◌, List, All}
use Rattle.dump_messages.specs.declared.messages.message.Fate.{Fate}
use Rattle.dump_messages.specs.declared.messages.message.EndedMessage.{EndedMessage}

-- Some messages are added at the end, and this became of each of them.
abbrev pub AddsBy : Fate → List EndedMessage → List EndedMessage → Type 0
AddsBy fate before after =
    (added : List EndedMessage) × (after ≡ before ++ added)
    × All (λ one. one.message.fate ≡ fate) added
