-- What is known of a packet's checksum field (RFC 9260 section 6.8).
use Rattle.std.specs.Prelude.{◌==◌, ◌||◌, ℕ, List, nat_lt, if◌then◌else◌, length}
use Rattle.dcsctp_wire.specs.Packet.{checksum_field}
use Rattle.dcsctp_borrowed.specs.declared.checksum.Checksum.{Checksum}
use Rattle.dcsctp_borrowed.specs.declared.checksum.Checksum.TheVariants.{Right, Zero, Wrong, Unknown}

-- Of a field where a word is expected. A zero says that no checksum was computed (RFC 9653 section
-- 3).
abbrev pub known : ℕ → ℕ → Checksum
known field word =
    if field == word then Right else
    if field == 0 then Zero else Wrong word

-- of the field of a packet of this size, of which these bytes were captured
abbrev pub known_of_packet : List ℕ → ℕ → ℕ → Checksum
known_of_packet bytes size word =
    if nat_lt (length bytes) size || nat_lt (length bytes) 12 then Unknown else
    known (checksum_field bytes) word
