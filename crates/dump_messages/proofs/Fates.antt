-- Adding messages twice is adding them once.
use Rattle.std.proofs.Common.{◌≡◌, ◌∙◌, ◌++◌, List, All, ap, append_assoc}
use Rattle.std.proofs.lemmas.List.Elements.{All-append}
use Rattle.dump_messages.specs.declared.messages.message.Fate.{Fate}
use Rattle.dump_messages.specs.declared.messages.message.EndedMessage.{EndedMessage}
use Rattle.dump_messages.specs.Fates.{AddsBy}

pub adds_more : (fate : Fate) (before : List EndedMessage) (between : List EndedMessage) (after : List EndedMessage)
    → AddsBy fate before between → AddsBy fate between after → AddsBy fate before after
adds_more fate before between after one other = (
  one.0 ++ other.0,
  other.1 ∙ ap (λ (xs : List EndedMessage). xs ++ other.0) one.1 ∙ append_assoc before one.0 other.0,
  All-append (λ (m : EndedMessage). m.message.fate ≡ fate) one.0 other.0 one.2 other.2,
)
