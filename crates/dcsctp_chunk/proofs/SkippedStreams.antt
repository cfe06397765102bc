-- Skipped streams of a chunk: each as all are, and how many.
use Rattle.std.{proofs.Common.{◌≡◌, Bool, List, [], ◌∷◌, length, All}, specs.List.{AllByRecursion}, proofs.lemmas.List.{length-map}, proofs.lemmas.List.Elements.{All-from_recursion}}
use Rattle.dcsctp_tlv.specs.declared.skipped_stream.SkippedStream.{SkippedStream}
use Rattle.dcsctp_chunk.specs.SkippedStreams.{is_by_mid, AreByMid, skipped_stream_view, skipped_stream_views}

of_views : (by_mid : Bool) (streams : List SkippedStream)
    → AreByMid by_mid (skipped_stream_views streams)
    → AllByRecursion (λ s. is_by_mid (skipped_stream_view s) ≡ by_mid) streams
of_views by_mid [] own = tt
of_views by_mid (s ∷ streams) own = (own.0, of_views by_mid streams own.1)

pub each_by_mid : (by_mid : Bool) (streams : List SkippedStream)
    → AreByMid by_mid (skipped_stream_views streams)
    → All (λ s. is_by_mid (skipped_stream_view s) ≡ by_mid) streams
each_by_mid by_mid streams own =
    All-from_recursion (λ s. is_by_mid (skipped_stream_view s) ≡ by_mid) streams
    (of_views by_mid streams own)

pub count_of_streams : (streams : List SkippedStream)
    → length (skipped_stream_views streams) ≡ length streams
count_of_streams streams = length-map streams skipped_stream_view
