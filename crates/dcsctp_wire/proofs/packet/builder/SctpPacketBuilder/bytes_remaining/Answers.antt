use Rattle.std.proofs.{Common.{arith, ◌≡◌, ◌∙◌}, lemmas.Grind.{common_steps}}
use Rattle.dcsctp_wire.{specs.Builder.{room}, proofs.Builders.{room_after}}
use Rattle.dcsctp_wire.proofs.packet.builder.SctpPacketBuilder.bytes_remaining.Goals as goal

pub returns-clause-held : goal.returns-clause-held
returns-clause-held c = λ chunks h. (let is : c.saturating_sub.result ≡ room c.args.self.now = grind
    (arith, common_steps) in is ∙ room_after c.args.self.now chunks h)
