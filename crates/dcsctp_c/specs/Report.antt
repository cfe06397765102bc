-- What a C program adds to a packet of what it doesn't recognize (RFC 9260 sections 3.2 and 3.2.2).
use Rattle.std.specs.Prelude.{ℕ, List, length}
use Rattle.dcsctp_buffer.specs.{Buffer.{IsBegun}, Item.{IsLastChunk}}
use Rattle.dcsctp_receive.specs.Unrecognized.{AreAdded, HasRoomForAll, IsErrorAdded, HasErrorRoom}
use Rattle.dcsctp_c.specs.{Output.{Output}, Writing.{Does}}

-- an item of this type for each value, to the chunk that begins at `start` and ends the packet
abbrev pub AddsEach : ℕ → ℕ → List (List ℕ) → Output → Output → ℕ → Type 0
AddsEach start typ values old = Does (IsLastChunk old.bytes old.size start) (Unit {0})
    (HasRoomForAll old.bytes old.size start values)
    (λ before after. AreAdded typ start values before.bytes before.size after.bytes after.size) old

-- an ERROR with a cause of this code for each value
abbrev pub AddsError : ℕ → List (List ℕ) → Output → Output → ℕ → Type 0
AddsError code values old = Does (IsBegun (length old.bytes) old.size) (Unit {0})
    (HasErrorRoom (length old.bytes) old.size values)
    (λ before after. IsErrorAdded code values before.bytes before.size after.bytes after.size) old
