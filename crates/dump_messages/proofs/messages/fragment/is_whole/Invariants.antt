use Rattle.std.proofs.Common.{◌≡◌, drop}
use Rattle.dump_messages.specs.Messages.{goes_on, is_whole}
use Rattle.dump_messages.proofs.messages.fragment.is_whole.Given as goal

-- what is left goes on if and only if all are a message
abbrev pub invariant-loop-next : goal.invariant-loop-next
invariant-loop-next l = goes_on l.last (drop l.next-index l.rest) ≡ is_whole l.fn.fragments
