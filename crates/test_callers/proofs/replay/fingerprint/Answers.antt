use Rattle.dcsctp_wire.specs.Canonical.{IsCanonicalOf, Fits}
use Rattle.dcsctp_wire.specs.Packet.{PacketTree, meaning_view, packet_view}
use Rattle.std.proofs.Common.{◌≡◌, true, subst, sym}
use Rattle.test_callers.proofs.replay.fingerprint.Goals as goal

pub returns-then-not-fits-clause-nothing : goal.returns-then-not-fits-clause-nothing
returns-then-not-fits-clause-nothing c p ans fits =
    let same : packet_view c.in_ok-packet.packet ≡ p = c.in_ok-packet.ensures.answer.value p ans in
    let held : Fits (meaning_view c.in_ok-packet.packet) =
    subst (λ (q : PacketTree). Fits q.meaning) (sym same) fits in
    let yes : c.fits.result ≡ true = c.fits.ensures.1 held in
    cc

pub returns-clause-one : goal.returns-clause-one
returns-clause-one c p ans =
    subst (λ (q : PacketTree). IsCanonicalOf q.meaning c.in_ok-canonical_bytes.field-0.items)
    (c.in_ok-packet.ensures.answer.value p ans)
    (c.in_ok-canonical_bytes.ensures.one c.in_ok-packet.ensures.formed)
