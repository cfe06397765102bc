-- What is counted of the events of captures, and the status of a run.
use Rattle.std.specs.Prelude.{◌≡◌, ◌+◌, ◌≤◌, ◌<◌, ◌==◌, ◌||◌, ◌&&◌, ℕ, Bool, true, nat_lt, if◌then◌else◌, List, [], ◌∷◌, ◌++◌, fold, replicate, slice_index, slice_set, length, Result, Ok, Err}
use Rattle.dump_capture.specs.Number.{capped, one_more}
use Rattle.dump_capture.specs.Event.{Event, Saw, Skip}
use Rattle.dump_capture.specs.Frame.{Packet, packet_in}
use Rattle.dump_capture.specs.declared.frame.NoPacket.{NoPacket}
use Rattle.dump_capture.specs.declared.frame.NoPacket.TheVariants as frame
use Rattle.dump_capture.specs.declared.event.Skipped.{Skipped}
use Rattle.dump_capture.specs.declared.event.Skipped.TheVariants as part
use Rattle.dcsctp_crc32c.specs.Checksum.{packet_word}
use Rattle.dcsctp_wire.specs.ChunkParseError.TheVariants.{InvalidPadding, InvalidValue}
use Rattle.dcsctp_wire.specs.Packet.{PacketFault, Answer, IsPacket, body, checksum_field, packet_error_of}
use Rattle.dcsctp_wire.specs.declared.packet.sctp_packet.ChecksumPolicy.{ChecksumPolicy}
use Rattle.dcsctp_wire.specs.declared.packet.sctp_packet.PacketParseError.{PacketParseError}
use Rattle.dcsctp_wire.specs.declared.packet.sctp_packet.PacketParseError.TheVariants.{FailedParseChunk}
use Rattle.dump_packet.specs.ChunkTypes.{ChunkTypes}
use Rattle.dump_command.specs.declared.options.Options.{Options}
use Rattle.dump_command.specs.declared.counts.Counts.{Counts}

abbrev pub nothing : Counts
nothing = record {
  accepted = 0;
  size = 0;
  length = 0;
  padding = 0;
  value = 0;
  partial = 0;
  zero = 0;
  wrong = 0;
  others = 0;
  fragments = 0;
  cut = 0;
  malformed = 0;
  long = 0;
  unknown = 0;
  links = 0;
  unfinished = 0;
  kinds = replicate 256 0;
}

abbrev pub refused : Counts → ℕ
refused c = capped (c.size + c.length + c.padding + c.value)

abbrev pub packets : Counts → ℕ
packets c = capped (c.accepted + refused c + c.partial)

abbrev pub skipped : Counts → ℕ
skipped c =
    capped (c.others + c.fragments + c.cut + c.malformed + c.long + c.unknown + c.links)

-- ---- a packet

-- any checksum is accepted, and any padding unless it is looked at
abbrev pub policy_of : Options → ChecksumPolicy
policy_of o = record {
  disable_checksum_verification = true;
  zero_checksum_alternate_error_detection_method = record { 0 = 0 };
  strict_padding = o.strict;
}

-- one chunk more of a type
abbrev pub with_kind : List ℕ → ℕ → List ℕ
with_kind kinds typ = slice_set kinds typ (one_more (slice_index kinds typ))

-- a packet more is accepted, with chunks of these types
abbrev pub accepted_with : Counts → List ℕ → Counts
accepted_with c types =
    record c { accepted = one_more c.accepted; kinds = fold with_kind c.kinds types }

-- the checksum field, if there is one, isn't the word
abbrev pub with_checksum : Counts → List ℕ → ℕ → Counts
with_checksum c bytes word =
    if nat_lt (length bytes) 12 then c else
    if checksum_field bytes == word then c else
    if checksum_field bytes == 0 then record c { zero = one_more c.zero } else
    record c { wrong = one_more c.wrong }

-- the first fault is of the size, or in a chunk: of its padding, of a value, or else of a length
abbrev pub refused_by : Counts → PacketParseError → Counts
refused_by c (FailedParseChunk InvalidPadding) = record c { padding = one_more c.padding }
refused_by c (FailedParseChunk InvalidValue) = record c { value = one_more c.value }
refused_by c (FailedParseChunk _) = record c { length = one_more c.length }
refused_by c _ = record c { size = one_more c.size }

-- one packet was counted
pub data CountsPacket (o : Options) (before : Counts) (p : Packet) (after : Counts) : Type 0 where
  partly : length p.bytes < p.length
      → after ≡ record before { partial = one_more before.partial }
      → CountsPacket o before p after
  whole : (types : List ℕ) → p.length ≤ length p.bytes
      → IsPacket p.bytes (packet_word p.bytes) (policy_of o) → ChunkTypes (body p.bytes) types
      → after ≡ accepted_with (with_checksum before p.bytes (packet_word p.bytes)) types
      → CountsPacket o before p after
  faulty : (e : PacketFault) → p.length ≤ length p.bytes
      → Answer p.bytes (packet_word p.bytes) (policy_of o) (Err e)
      → after ≡ refused_by (with_checksum before p.bytes (packet_word p.bytes)) (packet_error_of e)
      → CountsPacket o before p after

-- ---- an event

abbrev pub no_packet : Counts → NoPacket → Counts
no_packet c frame.Other = record c { others = one_more c.others }
no_packet c frame.Fragment = record c { fragments = one_more c.fragments }
no_packet c frame.Cut = record c { cut = one_more c.cut }
no_packet c frame.Malformed = record c { malformed = one_more c.malformed }
no_packet c frame.LinkType = record c { links = one_more c.links }

abbrev pub unread : Counts → Skipped → Counts
unread c part.EndsIn =
    record c { cut = one_more c.cut; unfinished = one_more c.unfinished }
unread c part.Malformed = record c { malformed = one_more c.malformed }
unread c part.NoInterface = record c { malformed = one_more c.malformed }
unread c part.TooLong = record c { long = one_more c.long }
unread c part.Unknown = record c { unknown = one_more c.unknown }
unread c part.Apart = record c { unknown = one_more c.unknown }
unread c part.UnreadDump = record c { unknown = one_more c.unknown }

abbrev pub CountsFrame : Options → Counts → Result Packet NoPacket → Counts → Type 0
CountsFrame o before (Ok p) after = CountsPacket o before p after
CountsFrame o before (Err why) after = after ≡ no_packet before why

-- one event was counted
abbrev pub CountsEvent : Options → Counts → Event → Counts → Type 0
CountsEvent o before (Saw seen link original_length bytes) after =
    CountsFrame o before (packet_in o.udp_port link original_length bytes) after
CountsEvent o before (Skip place number why) after = after ≡ unread before why

-- ---- a run

-- the counts of these events
pub data AreCounts (o : Options) : List Event → Counts → Type 0 where
  none : (events : List Event) (c : Counts) → events ≡ [] → c ≡ nothing → AreCounts o events c
  more : (events first : List Event) (last : Event) (before c : Counts)
      → AreCounts o first before → CountsEvent o before last c → events ≡ first ++ last ∷ []
      → AreCounts o events c

-- 2: an input couldn't be read, or ends inside a record, or nothing was read of any; or else 1: a
-- packet was refused; or else 3: one breaks a rule that was looked at
abbrev pub is_unread : Counts → Bool
is_unread c = packets c == 0 && nat_lt 0 (skipped c)

abbrev pub status : Bool → Bool → Counts → ℕ
status failed warned c =
    if failed || is_unread c || nat_lt 0 c.unfinished then 2 else
    if nat_lt 0 (refused c) then 1 else
    if warned then 3 else 0
