-- What a SACK acknowledges (RFC 9260 section 3.3.4), as far as it was captured.
use Rattle.std.specs.Prelude.{◌≡◌, ◌⊎◌, ◌+◌, ◌*◌, ◌<◌, ◌≤◌, ◌==◌, ◌&&◌, ◌||◌, Bool, true, ℕ, nat_le, if◌then◌else◌, List, length, drop}
use Rattle.dcsctp_tlv.specs.Number.{number16, number32}
use Rattle.dcsctp_borrowed.specs.Part.{Item}
use Rattle.dump_packet.specs.declared.acknowledgement.Acknowledgement.{Acknowledgement}
use Rattle.dump_packet.specs.Serial.{ahead, IsAfter}

-- a number lies in the gap ack block at a place, which has its first and its last number
abbrev pub IsInBlock : List ℕ → ℕ → ℕ → Type 0
IsInBlock blocks k offset =
    (4 * k + 4 ≤ length blocks) × (number16 (drop (4 * k) blocks) ≤ offset)
    × (offset ≤ number16 (drop (4 * k + 2) blocks))

-- one isn't after the cumulative TSN, or lies as far after it as one of the blocks says
abbrev pub IsAcknowledged : ℕ → ℕ → List ℕ → ℕ → Type 0
IsAcknowledged cumulative count blocks tsn =
    ¬ (IsAfter cumulative tsn)
    ⊎ ((k : ℕ) × (k < count) × IsInBlock blocks k (ahead cumulative tsn))

abbrev pub IsAcknowledgedBy : Acknowledgement → ℕ → Type 0
IsAcknowledgedBy by tsn = IsAcknowledged by.cumulative by.count by.blocks.now tsn

-- ---- chunks

-- A SACK, an NR-SACK and a SHUTDOWN (section 3.3.8) acknowledge TSNs.
abbrev pub is_acknowledging : ℕ → Bool
is_acknowledging typ = typ == 3 || typ == 16 || typ == 7

abbrev pub acknowledges : Item → Bool
acknowledges chunk = is_acknowledging chunk.first && nat_le 4 (length chunk.value.bytes)

-- A SACK has its gap ack blocks after the Cumulative TSN Ack, a_rwnd, their number, and that of
-- duplicates; an NR-SACK has two numbers of them, for two kinds.
abbrev pub block_count : Item → ℕ
block_count chunk =
    let value = chunk.value.bytes in
    if (chunk.first == 3) && nat_le 12 (length value) then number16 (drop 8 value) else
    if (chunk.first == 16) && nat_le 16 (length value)
    then number16 (drop 8 value) + number16 (drop 10 value) else 0

abbrev pub blocks_in : Item → List ℕ
blocks_in chunk = drop (if chunk.first == 3 then 12 else 16) chunk.value.bytes

-- this is what it acknowledges
pub record Says (chunk : Item) (by : Acknowledgement) : Type 0 where
  pub acknowledges : acknowledges chunk ≡ true
  pub cumulative : by.cumulative ≡ number32 chunk.value.bytes
  pub count : by.count ≡ block_count chunk
  pub blocks : by.blocks.now ≡ blocks_in chunk
