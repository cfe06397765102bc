-- How much user data (RFC 9260 section 3.3.1, RFC 8260 section 2.1) the chunks of a packet carry.
use Rattle.std.specs.Prelude.{ℕ, ◌+◌, List, [], ◌∷◌, Option, Some, None, length}
use Rattle.dcsctp_wire.specs.Caller.{ChunkTree, DataChunkTree}
use Rattle.dcsctp_borrowed.specs.UserData.{data_of}

abbrev pub size_of : Option DataChunkTree → ℕ
size_of None = 0
size_of (Some c) = length c.user_data.payload

abbrev pub payload_sizes : List ChunkTree → ℕ
payload_sizes [] = 0
payload_sizes (t ∷ ts) = size_of (data_of t) + payload_sizes ts
