use Rattle.std.proofs.Common.{◌≡◌, ◌+◌, ◌-◌, ◌*◌, ◌∙◌, ℕ, List, length, min, take, drop, arith, ap, ap₂, length-append}
use Rattle.dcsctp_tlv.specs.Image.{put}
use Rattle.dcsctp_chunk.specs.SkippedStreams.{stream_count}
use Rattle.dcsctp_borrowed.{specs.Rewritten.{streams_again, value_again}, proofs.PutsRewritten.{rest_is, front_is, back_is, length-streams, two_parts}}
use Rattle.dcsctp_borrowed.proofs.canonical.put_streams.Goals as goal

-- how many bytes both parts have
sizes : (value : List ℕ) (k n : ℕ) → k ≡ min (length value) 4 → n ≡ stream_count 8 value
    → length (take k value) + 8 * n ≡ length (value_again 194 value)
sizes value k n front count =
    let bytes = ap length (front_is 4 k value front) in
    let all = length-append (take 4 value) (streams_again (stream_count 8 value) (drop 4 value)) in
    let streams = length-streams (stream_count 8 value) (drop 4 value) in
    omega (arith, bytes, all, streams, count)

pub put_header-requires-clause-encodable : goal.put_header-requires-clause-encodable
put_header-requires-clause-encodable c =
    let s = sizes c.args.value.now _ _ c.min.ensures c.stream_count-count.ensures in
    omega (arith, s, c.requires.encodable)

pub put_each-requires-clause-room : goal.put_each-requires-clause-room
put_each-requires-clause-room c =
    let s = sizes c.args.value.now _ _ c.min.ensures c.stream_count-count.ensures in
    omega (arith, s, c.requires.room, c.put_header.auto.output, c.put_bytes.auto.output)

pub returns : goal.returns
returns c =
    let value = c.args.value.now in
    let k = c.min.result in
    let n = c.stream_count-count.result in
    let s = sizes value k n c.min.ensures c.stream_count-count.ensures in
    let front : take k value ≡ take 4 value = front_is 4 k value c.min.ensures in
    let streams : streams_again n (take (length value - c.min-2.result) (drop c.min-2.result value))
    ≡ streams_again (stream_count 8 value) (drop 4 value) =
    ap₂ streams_again c.stream_count-count.ensures
    (rest_is c.min-2.result value ∙ back_is 4 _ value c.min-2.ensures) in
    let size = ap length front in
    c.put_each.ensures
    ∙ ap₂ (λ (out bytes : List ℕ). put out (4 + length (take k value)) bytes)
    (c.put_bytes.ensures ∙ ap (put c.put_header.new.output 4) front) streams
    ∙ two_parts c.args.typ c.args.flags c.args.output.now c.put_header.new.output
    (length (take k value) + 8 * n) c.put_header.ensures (take 4 value)
    (streams_again (stream_count 8 value) (drop 4 value)) _ (omega (arith, size)) s
    (omega (arith, c.requires.room))
