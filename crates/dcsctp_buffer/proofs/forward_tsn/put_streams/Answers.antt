use Rattle.std.{proofs.Common.{◌≡◌, ◌+◌, ℕ, length, drop, ap, subst, sym, ◌∙◌, arith, take_all, drop-drop}, specs.List.{flat_map}, proofs.lemmas.List.Folds.{flat_map-map}, proofs.lemmas.List.Elements.{recursion_from_All}}
use Rattle.dcsctp_tlv.{specs.Image.{put}, proofs.Images.{all_more}, proofs.Kept.{all_map}, proofs.Puts.{next_place, put_more}}
use Rattle.dcsctp_chunk.specs.SkippedStreams.{is_by_mid, IsSkippedStreamInWidth}
use Rattle.dcsctp_buffer.{specs.ForwardTsn.{stream_bytes, stream_size}, proofs.ForwardTsns.{length-stream}}
use Rattle.dcsctp_buffer.proofs.forward_tsn.put_streams.Goals as goal

pub write_stream-requires-clause-kind : goal.write_stream-requires-clause-kind
write_stream-requires-clause-kind g c =
    let by_mid = c.args.by_mid in
    let view = g.S.AsSkippedStream.stream by_mid in
    let x = c.item-item.result in
    rw c.as_skipped_stream.ensures (subst (λ s. is_by_mid (view s) ≡ by_mid) (sym c.item-item.is)
    (c.requires.kind c.loop-item.item-index x c.loop-item-test.true))

pub loop-item-preserved : goal.loop-item-preserved
loop-item-preserved g c =
    let by_mid = c.args.by_mid in
    let view = g.S.AsSkippedStream.stream by_mid in
    let size = stream_size by_mid in
    let list = c.args.streams.now in
    let i = c.loop-item.item-index in
    let x = c.item-item.result in
    let end = c.loop-item.end in
    let out = c.loop-item.output in
    let bytes = stream_bytes by_mid (view x) in
    let back : drop size c.split_at_mut-rest.result.1.now ≡ drop (end + length bytes) out =
    ap (drop size) c.split_at_mut-rest.ensures.back ∙ drop-drop size end out
    ∙ ap (λ (n : ℕ). drop (end + n) out) (sym (length-stream by_mid (view x))) in
    record {
      end = omega (
        arith,
        c.loop-item.invariant.end,
        c.stream_size-size.ensures,
        next_place size i,
      );
      done = rw (
        c.split_at_mut-rest.ensures.front,
        c.write_stream.ensures.bytes,
        c.as_skipped_stream.ensures,
        back,
      ) (put_more (λ item. stream_bytes by_mid (view item)) size (λ item. Unit {0}) list i x
          c.args.output.now out c.args.place end (λ item fits. length-stream by_mid (view item))
          (λ k d lt. tt) c.loop-item-test.true c.item-item.is (omega (arith, c.requires.room))
          c.loop-item.invariant.end c.loop-item.invariant.done);
      width = all_more (λ item. IsSkippedStreamInWidth (view item)) list i x
          c.loop-item-test.true c.item-item.is
          (rw c.as_skipped_stream.ensures at c.write_stream.ensures.width)
          c.loop-item.invariant.width;
    }

pub returns-clause-bytes : goal.returns-clause-bytes
returns-clause-bytes g c =
    let by_mid = c.args.by_mid in
    let view = g.S.AsSkippedStream.stream by_mid in
    let list = c.args.streams.now in
    c.loop-item.invariant.done
    ∙ ap (put c.args.output.now c.args.place) (ap (flat_map (λ item. stream_bytes by_mid
    (view item))) (take_all c.loop-item.item-index list c.loop-item-test.false)
    ∙ sym (flat_map-map (stream_bytes by_mid) view list))

pub returns-clause-width : goal.returns-clause-width
returns-clause-width g c =
    let view = g.S.AsSkippedStream.stream c.args.by_mid in
    let list = c.args.streams.now in
    all_map (λ item. IsSkippedStreamInWidth (view item)) IsSkippedStreamInWidth view
    (λ item h. h) list
    (recursion_from_All (λ item. IsSkippedStreamInWidth (view item)) list
    (λ k d lt. c.loop-item.invariant.width k d (omega (arith, c.loop-item-test.false, lt))))
