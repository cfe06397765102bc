-- The packets that a filter passes.
use Rattle.std.specs.Prelude.{◌+◌, ◌&&◌, ◌||◌, not, Bool, true, false, ℕ, nat_le, Option, Some, None, List, length, bytes_eq, is_some, if◌then◌else◌}
use Rattle.std.specs.List.{list_any}
use Rattle.dump_capture.specs.Frame.{Packet}
use Rattle.dump_capture.specs.declared.frame.Addresses.{Addresses}
use Rattle.dump_capture.specs.declared.frame.Addresses.TheVariants as addresses
use Rattle.dump_capture.specs.declared.line.Direction.{Direction}
use Rattle.dump_capture.specs.declared.line.Direction.TheVariants as direction
use Rattle.dcsctp_borrowed.specs.Part.{Part, Item}
use Rattle.dcsctp_receive.specs.{Chunks.{is_of_type}, Fields.{has_port, has_tag, has_checksum, is_whole, is_on_stream, has_tsn, has_ppid}}
use Rattle.dump_packet.specs.declared.filter.Filter.{Filter}
use Rattle.dump_packet.specs.declared.filter.Arrival.{Arrival}
use Rattle.dump_packet.specs.declared.filter.Bound.{Bound}
use Rattle.dump_packet.specs.declared.filter.Bound.TheVariants as bound
use Rattle.dump_packet.specs.declared.filter.Host.{Host}
use Rattle.dump_packet.specs.declared.filter.Host.TheVariants as host

abbrev pub part_in : Packet → Part
part_in p = record { bytes = p.bytes; size = p.length }

-- there is a value, and it meets the test
abbrev pub is_met : {A : Type 0} → (A → Bool) → Option A → Bool
is_met test None = false
is_met test (Some a) = test a

-- Of the values that are asked for one meets the test, or none is asked for.
abbrev pub meets : {A : Type 0} → List (Option A) → (A → Bool) → Bool
meets asked test = not (list_any is_some asked) || list_any (is_met test) asked

-- It comes from the address.
abbrev pub is_source : Host → Option Addresses → Bool
is_source (host.V4 h) (Some (addresses.V4 from to)) = bytes_eq h from
is_source (host.V6 h) (Some (addresses.V6 from to)) = bytes_eq h from
is_source (host.V4 h) (Some (addresses.V6 from to)) = false
is_source (host.V6 h) (Some (addresses.V4 from to)) = false
is_source h None = false

-- It goes to the address.
abbrev pub is_destination : Host → Option Addresses → Bool
is_destination (host.V4 h) (Some (addresses.V4 from to)) = bytes_eq h to
is_destination (host.V6 h) (Some (addresses.V6 from to)) = bytes_eq h to
is_destination (host.V4 h) (Some (addresses.V6 from to)) = false
is_destination (host.V6 h) (Some (addresses.V4 from to)) = false
is_destination h None = false

-- It comes from the address or goes to it.
abbrev pub has_host : Host → Option Addresses → Bool
has_host h addresses = is_source h addresses || is_destination h addresses

-- It went this way.
abbrev pub is_way : Direction → Option Direction → Bool
is_way direction.Incoming (Some direction.Incoming) = true
is_way direction.Outgoing (Some direction.Outgoing) = true
is_way direction.Incoming (Some direction.Outgoing) = false
is_way direction.Outgoing (Some direction.Incoming) = false
is_way d None = false

-- All of it was captured, and its checksum field is neither the word (RFC 9260 section 6.8) nor 0
-- (RFC 9653 section 5.2).
abbrev pub has_wrong_checksum : ℕ → Part → Bool
has_wrong_checksum word p =
    is_whole p && nat_le 12 (length p.bytes)
    && not (has_checksum word p || has_checksum 0 p)

-- what is asked of the IP addresses
abbrev pub passes_addresses : Filter → Option Addresses → Bool
passes_addresses f addresses =
    meets f.hosts (λ host. has_host host addresses)
    && meets f.sources (λ host. is_source host addresses)
    && meets f.destinations (λ host. is_destination host addresses)

-- what is asked of the headers
abbrev pub passes_headers : Filter → Part → Option Addresses → Bool
passes_headers f p addresses =
    meets f.ports (λ port. has_port port p) && meets f.tags (λ tag. has_tag tag p)
    && passes_addresses f addresses

-- what is asked of the chunks
abbrev pub passes_chunks : Filter → List Item → Bool
passes_chunks f chunks =
    meets f.chunks (λ typ. list_any (is_of_type typ) chunks)
    && meets f.streams (λ stream. list_any (is_on_stream stream) chunks)
    && meets f.tsns (λ tsn. list_any (has_tsn tsn) chunks)
    && meets f.ppids (λ ppid. list_any (has_ppid ppid) chunks)

-- what is asked of the way that a packet went
abbrev pub goes : Filter → Arrival → Bool
goes f a = meets f.directions (λ way. is_way way a.direction)

-- all else that is asked for, of a packet with this checksum word, and its chunks that are looked
-- at
abbrev pub has_all : Filter → Packet → ℕ → List Item → Bool
has_all f p word chunks =
    passes_headers f (part_in p) p.addresses && passes_chunks f chunks
    && (not f.wrong || has_wrong_checksum word (part_in p))

-- The packet that was seen then is the one of the bound, or after it.
abbrev pub is_before : Bound → Arrival → Bool
is_before (bound.Number n) a = nat_le n a.number
is_before (bound.Time t) a = is_met (λ time. a.has_date && nat_le t time) a.time
is_before (bound.Since span) a =
    is_met (λ time. is_met (λ first. nat_le (first + span) time) a.first) a.time

-- It is the one of the bound, or before it.
abbrev pub is_after : Bound → Arrival → Bool
is_after (bound.Number n) a = nat_le a.number n
is_after (bound.Time t) a = is_met (λ time. a.has_date && nat_le time t) a.time
is_after (bound.Since span) a =
    is_met (λ time. is_met (λ first. nat_le time (first + span)) a.first) a.time

-- The packet that was seen then is within the bounds, and has all, and what is asked for elsewhere;
-- or doesn't, if that is wanted.
abbrev pub passes : Filter → Arrival → Bool → Packet → ℕ → List Item → Bool
passes f a others p word chunks =
    is_before f.from a && is_after f.to a
    && (if f.inverts then not (others && goes f a && has_all f p word chunks) else
    others && goes f a && has_all f p word chunks)
