-- There are as many fragments as there were.
use Rattle.std.proofs.Common.{◌≡◌}
use Rattle.std.specs.Prelude.{vec_len}
use Rattle.dump_messages.proofs.messages.outgoing.Outgoing.unmark.Given as goal

abbrev pub invariant-loop-place : goal.invariant-loop-place
invariant-loop-place l = vec_len l.self.fragments ≡ vec_len l.initial.self.fragments
