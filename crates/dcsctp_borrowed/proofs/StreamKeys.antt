-- What a stream key is made of.
use Rattle.std.proofs.Common.{◌≡◌, Bool, true, false, not, if◌then◌else◌, refl}
use Rattle.dcsctp_types.specs.{StreamKey.{is_ordered_key, stream_of}, declared.{api.stream_id.StreamId.{StreamId}, types.stream_key.StreamKey.TheVariants.{Ordered, Unordered}}}

pub key_unordered : (is_unordered : Bool) (id : StreamId)
    → not (is_ordered_key (if is_unordered then Unordered id else Ordered id)) ≡ is_unordered
key_unordered true id = refl
key_unordered false id = refl

pub key_stream : (is_unordered : Bool) (id : StreamId)
    → stream_of (if is_unordered then Unordered id else Ordered id) ≡ id
key_stream true id = refl
key_stream false id = refl
