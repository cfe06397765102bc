use Rattle.std.proofs.lemmas.Result.{IfOk-weaker}
use Rattle.dcsctp_wire.{specs.Packet.{meaning_view}, proofs.Canonicals.{reads_back, canonical_of}}
use Rattle.dcsctp_wire.proofs.packet.sctp_packet.SctpPacket.canonical_bytes.Goals as goal

pub returns-clause-reads_back : goal.returns-clause-reads_back
returns-clause-reads_back c = λ formed word policy accepted. IfOk-weaker c.canonical_of.result _ _
    (λ bytes e. rw e (reads_back (meaning_view c.args.self.now) word policy c.has_widths.ensures
    formed c.requires accepted)) c.canonical_of.ensures.bytes

pub returns-clause-one : goal.returns-clause-one
returns-clause-one c = λ formed. IfOk-weaker c.canonical_of.result _ _
    (λ bytes e. rw e (canonical_of (meaning_view c.args.self.now)
    (record { width = c.has_widths.ensures; formed = formed; fits = c.requires })))
    c.canonical_of.ensures.bytes
