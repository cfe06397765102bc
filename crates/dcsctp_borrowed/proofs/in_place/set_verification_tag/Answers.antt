use Rattle.std.proofs.Common.{List, ℕ, Err, sym, subst}
use Rattle.dcsctp_wire.specs.Packet.{Answer}
use Rattle.dcsctp_borrowed.proofs.Changes.{with_tag, with_tag_fault}
use Rattle.dcsctp_borrowed.proofs.in_place.set_verification_tag.Goals as goal

pub returns-clause-means : goal.returns-clause-means
returns-clause-means c word policy p answer = rw c.put_u32.ensures
    (with_tag c.args.packet.now c.args.verification_tag c.requires c.ranges.verification_tag.fits
    word policy p answer)

pub returns-clause-faulty : goal.returns-clause-faulty
returns-clause-faulty c word policy e answer =
    subst (λ (bytes : List ℕ). Answer bytes word policy (Err e)) (sym c.put_u32.ensures)
    (with_tag_fault c.args.packet.now c.args.verification_tag c.requires
    c.ranges.verification_tag.fits word policy e answer)
