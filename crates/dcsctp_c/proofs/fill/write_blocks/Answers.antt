use Rattle.std.proofs.Common.{◌∙◌, refl, arith, length-set}
use Rattle.dcsctp_c.{specs.Part.{Holds}, proofs.Fills.{fills_none, fills_next, fills_all}}
use Rattle.dcsctp_c.proofs.fill.write_blocks.Goals as goal

pub loop-index-init : goal.loop-index-init
loop-index-init c = record {
  few = omega arith;
  room = omega arith;
  size = refl;
  fills = fills_none Holds c.args.blocks.now;
}

pub loop-index-preserved : goal.loop-index-preserved
loop-index-preserved c =
    let before = c.loop-index.invariant in
    record {
      few = omega arith;
      room = omega (
        arith,
        length-set c.loop-index.blocks c.loop-index.index
            c.gap_ack_block.result,
      );
      size = length-set c.loop-index.blocks c.loop-index.index c.gap_ack_block.result ∙ before.size;
      fills = fills_next Holds c.args.blocks.now c.args.sack.now.blocks c.loop-index.blocks
          c.loop-index.index
          _ c.gap_ack_block.result before.fills c.gap_ack_block.ensures refl;
    }

pub returns : goal.returns
returns c =
    let end = c.loop-index.invariant in
    fills_all Holds c.args.blocks.now c.args.sack.now.blocks c.loop-index.blocks
    c.gap_ack_block_count-count.result c.loop-index.index c.gap_ack_block_count-count.ensures
    end.size end.few end.room (λ lt. omega (arith, lt)) end.fills
