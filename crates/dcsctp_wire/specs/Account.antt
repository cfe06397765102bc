-- How much a packet (RFC 9260 section 3) holds: its size as it is written again, and the number of
-- its parts.
use Rattle.std.specs.{Prelude.{◌≡◌, ℕ, ◌+◌, ◌≤◌, List, length}, List.{AllByRecursion}}
use Rattle.dcsctp_tlv.specs.{Frame.{Item, AreItems, any_padding, round_up_to_4}, Count.{total}}
use Rattle.dcsctp_cause.specs.Cause.{IsTextKept, HasOwnText}
use Rattle.dcsctp_wire.specs.{Chunk.{ChunkTree, Abort, Error, IsChunkEncodable, HoldsCauses, parts}, Packet.{Meaning, body}, Canonical.{padded_size, Fits}}

-- ---- replaced texts

-- if the chunk holds causes, each of them keeps its bytes
abbrev pub AreTextsKept : Item → Type 0
AreTextsKept i =
    HoldsCauses i.first → (causes : List Item) → AreItems any_padding i.value causes
    → AllByRecursion IsTextKept causes

-- no text of the packet is replaced by a fixed one
abbrev pub KeepsTexts : List ℕ → Type 0
KeepsTexts bytes =
    (chunks : List Item) → AreItems any_padding (body bytes) chunks
    → AllByRecursion AreTextsKept chunks

-- each text in the chunk is its own: so it is where there is none
abbrev pub HasOwnTexts : ChunkTree → Type 0
HasOwnTexts (Abort a) = AllByRecursion HasOwnText a.causes
HasOwnTexts (Error causes) = AllByRecursion HasOwnText causes
HasOwnTexts t = Unit {0}

-- ---- size

-- Written again, the packet has the size that it had, up to a multiple of 4.
pub record KeepsSize (bytes : List ℕ) (m : Meaning) : Type 0 where
  pub whole : 12 + padded_size m.chunks ≡ round_up_to_4 (length bytes)
  pub each : AllByRecursion IsChunkEncodable m.chunks
  pub fits : length bytes ≤ 65532 → Fits m

-- ---- parts

-- chunks, parameters and causes together
abbrev pub node_count : Meaning → ℕ
node_count m = total parts m.chunks
