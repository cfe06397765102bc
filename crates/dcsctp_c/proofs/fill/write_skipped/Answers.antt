use Rattle.std.proofs.Common.{◌∙◌, refl, arith, length-set}
use Rattle.dcsctp_c.{specs.Part.{HoldsSkipped}, proofs.Fills.{fills_none, fills_next, fills_all}}
use Rattle.dcsctp_c.proofs.fill.write_skipped.Goals as goal

pub loop-index-init : goal.loop-index-init
loop-index-init c = record {
  few = omega arith;
  room = omega arith;
  size = refl;
  fills = fills_none HoldsSkipped c.args.skipped_streams.now;
}

pub loop-index-preserved : goal.loop-index-preserved
loop-index-preserved c =
    let before = c.loop-index.invariant in
    record {
      few = omega arith;
      room = omega (
        arith,
        length-set c.loop-index.skipped_streams c.loop-index.index
            c.skipped_stream_of.result,
      );
      size = length-set c.loop-index.skipped_streams c.loop-index.index c.skipped_stream_of.result
          ∙ before.size;
      fills = fills_next HoldsSkipped c.args.skipped_streams.now c.args.forward.now.streams
          c.loop-index.skipped_streams c.loop-index.index
          _ c.skipped_stream_of.result before.fills c.skipped_stream.ensures
          c.skipped_stream_of.ensures;
    }

pub returns : goal.returns
returns c =
    let end = c.loop-index.invariant in
    fills_all HoldsSkipped c.args.skipped_streams.now c.args.forward.now.streams
    c.loop-index.skipped_streams c.skipped_stream_count-count.result c.loop-index.index
    c.skipped_stream_count-count.ensures end.size end.few end.room (λ lt. omega (arith, lt))
    end.fills
