-- What is counted of the packets that one end of an association sent.
use Rattle.std.specs.Prelude.{◌≡◌, ◌+◌, ◌-◌, ◌/◌, ◌==◌, ◌||◌, ℕ, Bool, nat_lt, nat_le, if◌then◌else◌, List, fold, length, drop, Option, Some, None}
use Rattle.dcsctp_tlv.specs.Number.{number16, number32}
use Rattle.dump_capture.specs.Number.{capped, one_more}
use Rattle.dcsctp_borrowed.specs.Part.{Part, Item, AreItems}
use Rattle.dcsctp_receive.specs.Chunks.{items_of}
use Rattle.dump_associations.specs.StaleCookies.{none_stale, with_cause}
use Rattle.dump_associations.specs.declared.associations.counts.Counts.{Counts}
use Rattle.dump_associations.specs.declared.associations.counts.LeastWindow.{LeastWindow}
use Rattle.dump_packet.specs.SeenPackets.{Packet}
use Rattle.dump_packet.specs.declared.packet_number.PacketNumber.{PacketNumber}
use Rattle.dcsctp_borrowed.specs.declared.checksum.Checksum.{Checksum}
use Rattle.dcsctp_borrowed.specs.declared.checksum.Checksum.TheVariants.{Right, Zero, Wrong, Unknown}

abbrev pub nothing : Counts
nothing = record {
  packets = 0;
  refused = 0;
  zero = 0;
  wrong = 0;
  inits = 0;
  data_chunks = 0;
  i_data_chunks = 0;
  data_bytes = 0;
  forward_tsns = 0;
  abandoned = 0;
  sacks = 0;
  sacks_with_gaps = 0;
  least_window = None;
  heartbeats = 0;
  stale_cookies = none_stale;
}

-- ---- a packet, without its chunks

-- A field of zero says that no checksum was computed (RFC 9653 section 3); neither right nor
-- unknown ones are counted.
abbrev pub with_checksum : Counts → Checksum → Counts
with_checksum c Zero = record c { zero = one_more c.zero }
with_checksum c (Wrong _) = record c { wrong = one_more c.wrong }
with_checksum c Right = c
with_checksum c Unknown = c

abbrev pub with_refusal : Counts → Bool → Counts
with_refusal c refused = if refused then record c { refused = one_more c.refused } else c

abbrev pub with_header : Counts → Checksum → Bool → Counts
with_header c checksum refused =
    with_checksum (with_refusal (record c { packets = one_more c.packets }) refused) checksum

-- ---- a chunk

-- a chunk with this many bytes of user data
abbrev pub with_data : Counts → ℕ → Counts
with_data c size =
    record c { data_chunks = one_more c.data_chunks; data_bytes = capped (c.data_bytes + size) }

abbrev pub with_i_data : Counts → ℕ → Counts
with_i_data c size = with_data (record c { i_data_chunks = one_more c.i_data_chunks }) size

-- a FORWARD-TSN or an I-FORWARD-TSN that lists this many streams
abbrev pub with_forward_tsn : Counts → ℕ → Counts
with_forward_tsn c streams =
    record c { forward_tsns = one_more c.forward_tsns; abandoned = capped (c.abandoned + streams) }

-- the lesser window, and of equal ones the first
abbrev pub with_window : Option LeastWindow → ℕ → PacketNumber → Option LeastWindow
with_window (Some w) a_rwnd packet =
    if nat_le w.a_rwnd a_rwnd then Some w else Some (record { a_rwnd = a_rwnd; packet = packet })
with_window None a_rwnd packet = Some (record { a_rwnd = a_rwnd; packet = packet })

-- what a SACK says: its window, and whether it reports gaps
abbrev pub with_report : PacketNumber → Counts → ℕ → Bool → Counts
with_report packet c window has_gaps =
    let more = if has_gaps then record c { sacks_with_gaps = one_more c.sacks_with_gaps } else c in
    record more { least_window = with_window more.least_window window packet }

-- The value of a SACK (RFC 9260 section 3.3.4): the cumulative TSN, then a_rwnd, the number of gap
-- blocks, and that of duplicates.
abbrev pub a_rwnd : List ℕ → ℕ
a_rwnd value = number32 (drop 4 value)

abbrev pub gap_blocks : List ℕ → ℕ
gap_blocks value = number16 (drop 8 value)

-- Of a SACK whose fixed part wasn't captured only that there was one is known.
abbrev pub with_sack : PacketNumber → Counts → List ℕ → Counts
with_sack packet c value =
    let more = record c { sacks = one_more c.sacks } in
    if nat_lt (length value) 12 then more
    else with_report packet more (a_rwnd value) (nat_lt 0 (gap_blocks value))

-- The value of an NR-SACK has the number of its second kind of gap blocks after that of the first
-- one, then that of duplicates, and two bytes that are reserved.
abbrev pub other_gap_blocks : List ℕ → ℕ
other_gap_blocks value = number16 (drop 10 value)

abbrev pub with_nr_sack : PacketNumber → Counts → List ℕ → Counts
with_nr_sack packet c value =
    let more = record c { sacks = one_more c.sacks } in
    if nat_lt (length value) 16 then more
    else with_report packet more (a_rwnd value)
    (nat_lt 0 (gap_blocks value) || nat_lt 0 (other_gap_blocks value))

-- an ERROR (RFC 9260 section 3.3.10) with these causes
abbrev pub with_error : Counts → Part → Counts
with_error c causes =
    record c { stale_cookies = fold with_cause c.stale_cookies (items_of causes) }

-- DATA (RFC 9260 section 3.3.1) has 12 bytes before its user data, I-DATA (RFC 8260 section 2.1)
-- 16. INIT is of RFC 9260 section 3.3.2, SACK of 3.3.4, HEARTBEAT of 3.3.5. After the new
-- cumulative TSN a FORWARD-TSN (RFC 3758 section 3.2) has 4 bytes a stream, an I-FORWARD-TSN
-- (RFC 8260 section 2.3.1) 8.
abbrev pub with_chunk : PacketNumber → Counts → Item → Counts
with_chunk packet c chunk =
    if chunk.first == 0 then with_data c (chunk.value.size - 12) else
    if chunk.first == 64 then with_i_data c (chunk.value.size - 16) else
    if chunk.first == 1 then record c { inits = one_more c.inits } else
    if chunk.first == 3 then with_sack packet c chunk.value.bytes else
    if chunk.first == 16 then with_nr_sack packet c chunk.value.bytes else
    if chunk.first == 4 then record c { heartbeats = one_more c.heartbeats } else
    if chunk.first == 9 then with_error c chunk.value else
    if chunk.first == 192 then with_forward_tsn c ((chunk.value.size - 4) / 4) else
    if chunk.first == 194 then with_forward_tsn c ((chunk.value.size - 4) / 8) else c

-- the chunks in these bytes were counted, as far as they can be read
abbrev pub CountsChunks : PacketNumber → Counts → Part → Counts → Type 0
CountsChunks packet before bytes new =
    (chunks : List Item) × AreItems bytes chunks × (new ≡ fold (with_chunk packet) before chunks)

-- ---- a packet

-- one packet was counted, with its chunks as far as they can be read
abbrev pub CountsPacket : Counts → Packet → Counts → Type 0
CountsPacket before p new =
    CountsChunks p.number (with_header before p.checksum p.is_refused) p.chunks new
