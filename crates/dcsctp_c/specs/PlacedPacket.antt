-- Packets that lie in one block of bytes, as one call reads them: of each what the call for one
-- packet reads, and the rows of all in one array.
use Rattle.std.specs.Prelude.{◌≡◌, ◌≢◌, ◌+◌, ℕ, List, Some, None, length, drop, min}
use Rattle.dcsctp_wire.specs.declared.packet.sctp_packet.ChecksumPolicy.{ChecksumPolicy}
use Rattle.dcsctp_c.specs.{Code.{bad_place_code}, Part.{part_at}, Row.{IsReading}}
use Rattle.dcsctp_c.specs.declared.structs.{DcsctpPlacedPacket.{DcsctpPlacedPacket}, DcsctpRow.{DcsctpRow}}

-- What was read of a packet, which is a part of the block; or there is no such part, and no packet.
pub record IsPlacedReading (block : List ℕ) (policy : ChecksumPolicy) (p : DcsctpPlacedPacket)
    (rows : List DcsctpRow) : Type 0 where
  pub within : (bytes : List ℕ) → part_at block p.offset p.size ≡ Some bytes
      → IsReading bytes p.word policy p.packet rows
  pub outside : part_at block p.offset p.size ≡ None → (p.packet.code ≡ bad_place_code)
      × (p.packet.chunk_count ≡ 0) × (p.packet.fault_offset ≡ 0)

-- what was read of a packet whose first row has an index
pub record IsPacketAt (block : List ℕ) (policy : ChecksumPolicy) (rows : List DcsctpRow)
    (index : ℕ) (p : DcsctpPlacedPacket) : Type 0 where
  pub first : p.first_row ≡ index
  pub reading : IsPlacedReading block policy p (drop index rows)

-- the index after a packet's rows: the end of the array, where not all have room
abbrev pub rows_end : List DcsctpRow → DcsctpPlacedPacket → ℕ
rows_end rows p = min (p.first_row + p.packet.chunk_count) (length rows)

-- What was asked stays; so does the header, unless the bytes are a packet.
pub record IsAsked (new old : DcsctpPlacedPacket) : Type 0 where
  pub asked : new ≡ record old { first_row = new.first_row; packet = new.packet }
  pub header : new.packet.code ≢ 0 → new.packet.header ≡ old.packet.header
