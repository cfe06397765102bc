use Rattle.dcsctp_borrowed.proofs.Changes.{seal_before, seal_after, seal_is, with_checksum_word}
use Rattle.dcsctp_borrowed.proofs.in_place.set_checksum_word.Goals as goal

pub returns-clause-apart : goal.returns-clause-apart
returns-clause-apart c = rw c.put_u32.ensures (
  seal_before c.args.packet.now c.args.checksum c.requires c.ranges.checksum.fits,
  seal_after c.args.packet.now c.args.checksum c.requires c.ranges.checksum.fits,
)

pub returns-clause-field : goal.returns-clause-field
returns-clause-field c = rw c.put_u32.ensures
    (seal_is c.args.packet.now c.args.checksum c.requires c.ranges.checksum.fits)

pub returns-clause-means : goal.returns-clause-means
returns-clause-means c p before after first later answer accepted strict =
    rw c.put_u32.ensures (with_checksum_word c.args.packet.now c.args.checksum c.requires
    c.ranges.checksum.fits p before after first later answer accepted strict)
