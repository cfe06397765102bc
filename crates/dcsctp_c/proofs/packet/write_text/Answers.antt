use Rattle.std.proofs.Common.{refl, rules}
use Rattle.dcsctp_c.specs.Output.{written, no_room}
use Rattle.dcsctp_c.proofs.packet.write_text.Goals as goal

pub returns-then-text-output-clause-writes : goal.returns-then-text-output-clause-writes
returns-then-text-output-clause-writes c = no_room c.args.text.now refl c.if-text-output.true refl refl

pub returns-clause-writes : goal.returns-clause-writes
returns-clause-writes c = written c.args.text.now refl refl refl (search rules)
