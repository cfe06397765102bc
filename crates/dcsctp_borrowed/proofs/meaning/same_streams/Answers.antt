use Rattle.std.proofs.Common.{◌∙◌, sym}
use Rattle.dcsctp_borrowed.proofs.PutsRewritten.{rest_is, back_is}
use Rattle.dcsctp_borrowed.proofs.SameRewritten.{fronts_tell, streams_parts, streams_same}
use Rattle.dcsctp_borrowed.proofs.meaning.same_streams.Goals as goal

pub returns-else-eq : goal.returns-else-eq
returns-else-eq c =
    let value = c.args.value.now in
    let other = c.args.other.now in
    let front = fronts_tell 4 _ _ value other _ c.min-place.ensures c.min-other_place.ensures
    c.eq.ensures in
    (λ is. absurd cc, λ e. front.1 (streams_parts value other e).1)

pub returns-then-eq : goal.returns-then-eq
returns-then-eq c =
    let value = c.args.value.now in
    let other = c.args.other.now in
    let front = fronts_tell 4 _ _ value other _ c.min-place.ensures c.min-other_place.ensures
    c.eq.ensures in
    let each = rw (
      rest_is c.min-place.result value,
      back_is 4 _ value c.min-place.ensures,
      rest_is c.min-other_place.result other,
      back_is 4 _ other c.min-other_place.ensures,
    ) at c.same_each.ensures in
    streams_same value other c.stream_count-count.result c.same_each.result
    c.stream_count-count.ensures (c.if-count-stream_count.false ∙ c.stream_count.ensures)
    (front.0 c.if-eq.true) each

pub returns-then-count-stream_count : goal.returns-then-count-stream_count
returns-then-count-stream_count c = (
  λ is. absurd cc,
  λ e. absurd (c.if-count-stream_count.true (c.stream_count-count.ensures
      ∙ (streams_parts c.args.value.now c.args.other.now e).0 ∙ sym c.stream_count.ensures)),
)
