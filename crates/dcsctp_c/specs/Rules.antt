-- What a C program knows of the association that a packet belongs to.
use Rattle.std.specs.Prelude.{false, if◌then◌else◌, Some, None}
use Rattle.dcsctp_receive.specs.declared.rule.Known.{Known}
use Rattle.dcsctp_c.specs.declared.structs.DcsctpKnown.{DcsctpKnown}

-- Zero Checksum Acceptable wasn't announced (RFC 9653 section 4), or nothing is known of it.
abbrev pub known_of : DcsctpKnown → Known
known_of k = record {
  accepts_zero = if k.refuses_zero then Some false else None;
  has_data = k.has_data;
  has_idata = k.has_i_data;
}
