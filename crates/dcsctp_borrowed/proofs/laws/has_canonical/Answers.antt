use Rattle.std.proofs.Common.{arith, subst}
use Rattle.dcsctp_tlv.specs.Number.{AreBytes}
use Rattle.dcsctp_borrowed.proofs.CanonicalRewritten.{has_canonical}
use Rattle.dcsctp_borrowed.proofs.laws.has_canonical.Goals as goal

pub returns : goal.returns
returns c = λ p r some whole.
    has_canonical c.args.packet.now p r (omega arith) (omega arith) (omega arith)
    (subst AreBytes c.bytes-chunks.ensures.value c.bytes-chunks.ensures.fits) some whole
