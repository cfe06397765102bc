-- What a stream key holds: a stream (RFC 9260 section 3.3.1), and whether its messages are ordered.
use Rattle.std.specs.Prelude.{Bool, true, false}
use Rattle.dcsctp_types.specs.declared.{api.stream_id.StreamId.{StreamId}, types.stream_key.StreamKey.{StreamKey}, types.stream_key.StreamKey.TheVariants.{Ordered, Unordered}}

abbrev pub stream_of : StreamKey → StreamId
stream_of (Ordered id) = id
stream_of (Unordered id) = id

abbrev pub is_ordered_key : StreamKey → Bool
is_ordered_key (Ordered _) = true
is_ordered_key (Unordered _) = false
