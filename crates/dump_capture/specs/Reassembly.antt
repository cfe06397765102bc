-- IP packets put together of their fragments (RFC 791 section 3.2, RFC 8200 section 4.5).
use Rattle.std.specs.Prelude.{◌≡◌, ◌+◌, ◌≤◌, ℕ, Bool, true, false, List, [], ◌∷◌, ◌++◌, Option, Some, None, length, map}
use Rattle.std.specs.List.{All, Contains, concat, filter_map}
use Rattle.std.specs.Int.{w16, to_be_bytes}
use Rattle.dump_capture.specs.Event.{Event, Saw, Skip}
use Rattle.dump_capture.specs.Payload.{Payload}
use Rattle.dump_capture.specs.IpFragment.{Fragment, fragment_in}
use Rattle.dump_capture.specs.declared.frame.Addresses.{Addresses}
use Rattle.dump_capture.specs.declared.frame.Addresses.TheVariants.{V4, V6}
use Rattle.dump_capture.specs.declared.payload.Protocol.TheVariants.{Number}
use Rattle.dump_capture.specs.declared.ip_fragment.FragmentKey.{FragmentKey}
use Rattle.dump_capture.specs.declared.reassembly.TheConstants.{MOST_PACKETS, MOST_FRAGMENTS, MOST_BYTES}
use Rattle.dump_capture.specs.declared.reassembly.KeptFragment.{KeptFragment}
use Rattle.dump_capture.specs.declared.reassembly.PartialPacket.{PartialPacket}
use Rattle.dump_capture.specs.declared.reassembly.Place.{Place}
use Rattle.dump_capture.specs.declared.reassembly.Place.TheVariants as place

-- ---- a packet

-- the data of fragments, one after the other
abbrev pub joined : List Fragment → List ℕ
joined fs = concat (map (λ f. f.bytes) fs)

-- Fragments, in this order, are the front of a packet: the data of each begins where that of the
-- one before ended, of the first at 0, and more follow each but the last. It says whether more
-- follow that one.
pub data AreFront : List Fragment → Bool → Type 0 where
  none : (fs : List Fragment) (more : Bool) → fs ≡ [] → more ≡ true → AreFront fs more
  next : (fs first : List Fragment) (last : Fragment) (more : Bool)
      → AreFront first true → last.offset ≡ length (joined first)
      → fs ≡ first ++ last ∷ [] → more ≡ last.more → AreFront fs more

-- fragments, in this order, are all of a packet
abbrev pub AreWhole : List Fragment → Type 0
AreWhole fs = AreFront fs false

-- they are of one packet
abbrev pub AreOf : FragmentKey → List Fragment → Type 0
AreOf key fs = All (λ f. f.key ≡ key) fs

-- ---- as bytes

-- The header of a packet that is put together: its length, and no more of fragments. In IPv4 (RFC
-- 791 section 3.1) it has no options, in IPv6 (RFC 8200 section 3) no extension headers; the hop
-- limit is 64.
abbrev pub ip_header : Addresses → ℕ → ℕ → ℕ → List ℕ
ip_header (V4 source destination) protocol size checksum =
    (0x45 ∷ 0 ∷ []) ++ to_be_bytes w16 (20 + size) ++ (0 ∷ 0 ∷ 0 ∷ 0 ∷ 64 ∷ protocol ∷ [])
    ++ to_be_bytes w16 checksum ++ source ++ destination
ip_header (V6 source destination) protocol size checksum =
    (0x60 ∷ 0 ∷ 0 ∷ 0 ∷ []) ++ to_be_bytes w16 size ++ (protocol ∷ 64 ∷ []) ++ source ++ destination

-- what such a packet carries
abbrev pub carried_by : Addresses → ℕ → List ℕ → Payload
carried_by addresses protocol bytes = record {
  addresses = Some addresses;
  protocol = Number protocol;
  size = length bytes;
  bytes = bytes;
}

-- These bytes are a packet that was put together of `count` of these fragments: they are of one
-- packet, and all of it; what it carries, the first of them says.
pub record IsJoined (fs : List Fragment) (bytes : List ℕ) (count : ℕ) : Type 0 where
  pub first : Fragment
  pub others : List Fragment
  pub known : All (Contains fs) (first ∷ others)
  pub number : count ≡ length (first ∷ others)
  pub one : AreOf first.key (first ∷ others)
  pub whole : AreWhole (first ∷ others)
  pub checksum : ℕ
  pub is : bytes ≡ ip_header first.key.addresses first.protocol
      (length (joined (first ∷ others))) checksum ++ joined (first ∷ others)

-- ---- the code's values

abbrev pub kept : FragmentKey → KeptFragment → Fragment
kept key k = record {
  key = key;
  protocol = k.protocol;
  offset = k.offset;
  more = k.more;
  bytes = k.bytes.items;
}

abbrev pub all_kept : PartialPacket → List Fragment
all_kept p = map (kept p.key) p.fragments.items

-- all that is kept of a packet is of these fragments, and not too much
pub record AreKept (fs : List Fragment) (p : PartialPacket) : Type 0 where
  pub known : All (λ k. Contains fs (kept p.key k)) p.fragments.items
  pub few : length p.fragments.items ≤ MOST_FRAGMENTS
  pub size : p.size ≡ length (joined (all_kept p))
  pub small : p.size ≤ MOST_BYTES

-- so is what is kept of several
pub record AreAllKept (fs : List Fragment) (ps : List PartialPacket) : Type 0 where
  pub each : All (AreKept fs) ps
  pub few : length ps ≤ MOST_PACKETS

-- an index among `n` items, or after the last
abbrev pub IsPlace : ℕ → Place → Type 0
IsPlace n (place.Before i) = i ≤ n
IsPlace n _ = Unit {0}

-- ---- events

-- the fragments in the frames of events, where SCTP in UDP is on this port
abbrev pub fragment_of_event : ℕ → Event → Option Fragment
fragment_of_event port (Saw seen link original_length bytes) =
    fragment_in port link original_length bytes
fragment_of_event port (Skip place number why) = None

abbrev pub fragments_in : ℕ → List Event → List Fragment
fragments_in port events = filter_map (fragment_of_event port) events
