use Rattle.std.proofs.Common.{[]}
use Rattle.std.proofs.Common.{ap}
use Rattle.dcsctp_wire.specs.Builder.{BuilderState}
use Rattle.test_callers.proofs.handshake.init_answer.Goals as goal

-- src/lib.rt:79:1
pub returns-clause-holds : goal.returns-clause-holds
returns-clause-holds c =
    c.in_ok-add.ensures.added [] (ap (λ (b : BuilderState). b.bytes) c.new-builder.ensures)
