-- The ICMP errors that quote packets of one end (RFC 9260 section 10).
use Rattle.std.specs.Prelude.{◌==◌, ◌||◌, ℕ, nat_le, if◌then◌else◌, Option, Some, None}
use Rattle.dump_capture.specs.Number.{one_more}
use Rattle.dump_capture.specs.declared.icmp.IcmpError.{IcmpError}
use Rattle.dump_packet.specs.declared.packet_number.PacketNumber.{PacketNumber}
use Rattle.dump_associations.specs.declared.associations.icmp_errors.IcmpErrors.{IcmpErrors}
use Rattle.dump_associations.specs.declared.associations.icmp_errors.LeastMtu.{LeastMtu}

abbrev pub no_errors : IcmpErrors
no_errors = record { count = 0; last = None; least_mtu = None }

-- the lesser MTU, and of equal ones the first; 0 says none (RFC 1191 section 4)
abbrev pub with_mtu : Option LeastMtu → ℕ → PacketNumber → Option LeastMtu
with_mtu (Some l) mtu packet =
    if mtu == 0 || nat_le l.mtu mtu then Some l else Some (record { mtu = mtu; packet = packet })
with_mtu None mtu packet =
    if mtu == 0 then None else Some (record { mtu = mtu; packet = packet })

-- the error in this packet is the last one
abbrev pub with_error : IcmpErrors → PacketNumber → IcmpError → IcmpErrors
with_error e packet error =
    record {
      count = one_more e.count;
      last = Some (record { kind = error.kind; code = error.code; packet = packet });
      least_mtu = with_mtu e.least_mtu error.mtu packet;
    }
