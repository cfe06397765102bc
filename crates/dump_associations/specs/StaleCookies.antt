-- The Stale Cookie causes in ERRORs (RFC 9260 section 3.3.10.3), as far as they were captured.
use Rattle.std.specs.Prelude.{max, nat_le, if◌then◌else◌, length}
use Rattle.dcsctp_tlv.specs.Number.{number32}
use Rattle.dump_capture.specs.Number.{one_more}
use Rattle.dcsctp_borrowed.specs.Part.{Item}
use Rattle.dcsctp_receive.specs.Chunks.{is_numbered}
use Rattle.dump_associations.specs.declared.associations.stale_cookies.StaleCookies.{StaleCookies}

abbrev pub none_stale : StaleCookies
none_stale = record { count = 0; greatest = 0 }

-- code 3; the Measure of Staleness, in microseconds, is its value
abbrev pub with_cause : StaleCookies → Item → StaleCookies
with_cause s cause =
    if is_numbered 3 cause then
    record {
      count = one_more s.count;
      greatest =
          if nat_le 4 (length cause.value.bytes) then max s.greatest (number32 cause.value.bytes)
          else s.greatest;
    } else
    s
