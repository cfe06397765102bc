use Rattle.dcsctp_wire.specs.Packet.{packet_reading, packet_view}
use Rattle.dcsctp_wire.specs.Reading.{Exactly}
use Rattle.test_callers.specs.Sealed.{Verified}
use Rattle.test_callers.proofs.Sealing.{default_is, verified, changed_refused}
use Rattle.test_callers.proofs.sealed.read_verified.Goals as goal

answered : (c : goal.After-from_bytes)
    → Exactly packet_reading packet_view (Verified c.args.bytes.now) c.from_bytes.result
answered c =
    let default = c.default-policy.ensures in
    let policy = c.default-policy.result in
    verified c.args.bytes.now c.packet_word.result policy c.from_bytes.result
    c.from_bytes.ensures.answer
    c.packet_word.ensures.value (default_is policy default.0 default.1 default.2)

pub returns-clause-answer : goal.returns-clause-answer
returns-clause-answer c = answered c

pub returns-clause-changed : goal.returns-clause-changed
returns-clause-changed c = changed_refused c.args.bytes.now c.from_bytes.result (answered c)
