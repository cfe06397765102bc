-- What became of the message stays.
use Rattle.std.proofs.Common.{◌≡◌}
use Rattle.dump_messages.proofs.messages.message.Message.assemble.Given as goal

abbrev pub invariant-loop-i : goal.invariant-loop-i
invariant-loop-i l = l.self ≡ l.fn.self

abbrev pub invariant-loop-i-2 : goal.invariant-loop-i-2
invariant-loop-i-2 l = l.self.fate ≡ l.fn.self.fate
