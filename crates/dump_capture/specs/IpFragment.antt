-- A fragment of an IP packet in a frame (RFC 791 section 3.2, RFC 8200 section 4.5): where
-- `packet_in` ends at the header of one.
use Rattle.std.specs.Prelude.{◌-◌, ◌*◌, ◌/◌, ◌%◌, ◌^◌, ◌==◌, ℕ, zero, suc, Bool, ◌&&◌, ◌||◌, not, nat_lt, if◌then◌else◌, List, Option, Some, None, Result, Ok, Err, length, take, drop}
use Rattle.std.specs.Int.{w32, from_be_bytes}
use Rattle.dump_capture.specs.Number.{byte_at, number16}
use Rattle.dump_capture.specs.Payload.{Payload}
use Rattle.dump_capture.specs.Tunnel.{is_tunnel, past_tunnel}
use Rattle.dump_capture.specs.Frame.{begins_with_header, past_header, past_headers, through_tunnel, in_frame, ipv4_header_size, ipv4_length, ipv4_addresses}
use Rattle.dump_capture.specs.declared.frame.Addresses.{Addresses}
use Rattle.dump_capture.specs.declared.frame.Addresses.TheVariants.{V4, V6}
use Rattle.dump_capture.specs.declared.frame.NoPacket.{NoPacket}
use Rattle.dump_capture.specs.declared.frame.NoPacket.TheVariants.{Fragment as IsFragment}
use Rattle.dump_capture.specs.declared.payload.Protocol.{Protocol}
use Rattle.dump_capture.specs.declared.payload.Protocol.TheVariants.{Number}
use Rattle.dump_capture.specs.declared.ip_fragment.FragmentKey.{FragmentKey}
use Rattle.dump_capture.specs.declared.ip_fragment.IpFragment.{IpFragment}

-- Which packet it is of; what the packet carries, as its header says it; where its data begins in
-- the packet's, whether more follow; and its data.
pub record Fragment : Type 0 where
  pub key : FragmentKey
  pub protocol : ℕ
  pub offset : ℕ
  pub more : Bool
  pub bytes : List ℕ

-- ---- a header

-- There is data; its size is a multiple of 8 but in the last fragment; and it doesn't reach beyond
-- the longest packet, of `most` bytes (RFC 8200 section 4.5, and as to the 8 RFC 791 section 3.2).
abbrev pub well_formed : ℕ → Fragment → Option Fragment
well_formed most f =
    if length f.bytes == 0 || nat_lt most (length f.bytes)
    || nat_lt (most - length f.bytes) f.offset then None else
    if f.more && not (length f.bytes % 8 == 0) then None else
    Some f

-- Its addresses, its protocol and its identification identify a packet; the flag MF says whether
-- more follow, and the low 13 bits count words of eight bytes (RFC 791 section 3.2).
unfoldable pub ipv4_fragment : Payload → Option Fragment
ipv4_fragment p =
    if nat_lt (length p.bytes) 20 then None else
    if nat_lt (length p.bytes) (ipv4_length p) then None else
    well_formed 65515 (record {
      key = record {
        addresses = ipv4_addresses p.bytes;
        identification = number16 (drop 4 p.bytes);
        protocol = Some (byte_at 9 p.bytes);
      };
      protocol = byte_at 9 p.bytes;
      offset = 8 * (number16 (drop 6 p.bytes) % 2 ^ 13);
      more = number16 (drop 6 p.bytes) / 2 ^ 13 % 2 == 1;
      bytes = drop (ipv4_header_size p.bytes) (take (ipv4_length p) p.bytes);
    })

-- Its addresses and its identification identify a packet; the flag M is the lowest bit, and the
-- high 13 count words of eight bytes (RFC 8200 section 4.5).
abbrev pub ipv6_fragment_of : Option Addresses → Payload → Option Fragment
ipv6_fragment_of (Some (V6 source destination)) p =
    well_formed 65535 (record {
      key = record {
        addresses = V6 source destination;
        identification = from_be_bytes w32 (take 4 (drop 4 p.bytes));
        protocol = None;
      };
      protocol = byte_at 0 p.bytes;
      offset = 8 * (number16 (drop 2 p.bytes) / 8);
      more = number16 (drop 2 p.bytes) % 2 == 1;
      bytes = drop 8 (take p.size p.bytes);
    })
ipv6_fragment_of (Some (V4 source destination)) p = None
ipv6_fragment_of None p = None

unfoldable pub ipv6_fragment : Payload → Option Fragment
ipv6_fragment p =
    if nat_lt (length p.bytes) 8 then None else
    if nat_lt (length p.bytes) p.size then None else
    ipv6_fragment_of p.addresses p

-- a fragment header, or a header of IPv4
abbrev pub fragment_by : Protocol → Payload → Option Fragment
fragment_by (Number number) p = ipv6_fragment p
fragment_by _ p = ipv4_fragment p

-- after whose header reading ended, for this reason
abbrev pub fragment_at : Payload → NoPacket → Option Fragment
fragment_at p IsFragment = fragment_by p.protocol p
fragment_at p _ = None

-- ---- a frame

abbrev pub at_fault : {A : Type 0} → (Payload → NoPacket → Option A) → Payload
    → Result Payload NoPacket → (Payload → Option A) → Option A
at_fault found p (Ok q) rest = rest q
at_fault found p (Err why) rest = found p why

-- what is found of the payload at which the first step fails, where n steps are made at most
unfoldable pub first_fault : {A : Type 0} → (Payload → NoPacket → Option A) → (Payload → Bool)
    → (Payload → Result Payload NoPacket) → ℕ → Payload → Option A
first_fault found has_step step zero p = None
first_fault found has_step step (suc n) p =
    if has_step p then at_fault found p (step p) (first_fault found has_step step n) else
    None

-- the fragment at which reading the headers at the front ends, n at most
abbrev pub in_headers : ℕ → Payload → Option Fragment
in_headers n p = first_fault fragment_at begins_with_header past_header n p

abbrev pub in_carried : Result Payload NoPacket → Option Fragment
in_carried (Ok q) = in_headers (2 ^ 16) q
in_carried (Err why) = None

-- the one that a tunnel carries
abbrev pub in_tunnel : Payload → NoPacket → Option Fragment
in_tunnel p why = in_carried (past_tunnel p)

-- the one that one of n tunnels carries, where SCTP in UDP is on this port
abbrev pub in_tunnels : ℕ → ℕ → Payload → Option Fragment
in_tunnels n port p = first_fault in_tunnel (is_tunnel port) through_tunnel n p

abbrev pub in_outer : ℕ → Payload → Result Payload NoPacket → Option Fragment
in_outer port p (Ok outer) = in_tunnels 4 port outer
in_outer port p (Err why) = in_headers (2 ^ 16) p

-- The fragment in a frame, where `packet_in` ends at one: in the headers of the link and of IP, or
-- in those that a tunnel carries.
unfoldable pub fragment_in : ℕ → ℕ → ℕ → List ℕ → Option Fragment
fragment_in port link original_length frame =
    in_outer port (in_frame link original_length frame)
    (past_headers (2 ^ 16) (in_frame link original_length frame))

-- ---- the code's values

abbrev pub fragment_of : IpFragment → Fragment
fragment_of f = record {
  key = f.key;
  protocol = f.protocol;
  offset = f.offset;
  more = f.more;
  bytes = f.bytes.now;
}

abbrev pub fragment_result : Option IpFragment → Option Fragment
fragment_result None = None
fragment_result (Some f) = Some (fragment_of f)
