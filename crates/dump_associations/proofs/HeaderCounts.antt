-- Counting a packet without its chunks counts one packet.
use Rattle.std.proofs.Common.{◌≡◌, Bool, true, false, refl, ◌∙◌}
use Rattle.dump_capture.specs.Number.{one_more}
use Rattle.dcsctp_borrowed.specs.declared.checksum.Checksum.{Checksum}
use Rattle.dcsctp_borrowed.specs.declared.checksum.Checksum.TheVariants.{Right, Zero, Wrong, Unknown}
use Rattle.dump_associations.specs.declared.associations.counts.Counts.{Counts}
use Rattle.dump_associations.specs.Counts.{with_refusal, with_checksum, with_header}

pub packets-with_refusal : (c : Counts) (refused : Bool) → (with_refusal c refused).packets ≡ c.packets
packets-with_refusal c true = refl
packets-with_refusal c false = refl

pub packets-with_checksum : (c : Counts) (checksum : Checksum)
    → (with_checksum c checksum).packets ≡ c.packets
packets-with_checksum c Zero = refl
packets-with_checksum c (Wrong _) = refl
packets-with_checksum c Right = refl
packets-with_checksum c Unknown = refl

pub packets-with_header : (c : Counts) (checksum : Checksum) (refused : Bool)
    → (with_header c checksum refused).packets ≡ one_more c.packets
packets-with_header c checksum refused =
    packets-with_checksum _ checksum ∙ packets-with_refusal _ refused
