use Rattle.std.proofs.Common.{◌∙◌, refl, arith, length-set}
use Rattle.dcsctp_c.{specs.Part.{Holds}, proofs.Fills.{fills_none, fills_next, fills_all}}
use Rattle.dcsctp_c.proofs.fill.write_duplicates.Goals as goal

pub loop-index-init : goal.loop-index-init
loop-index-init c = record {
  few = omega arith;
  room = omega arith;
  size = refl;
  fills = fills_none Holds c.args.tsns.now;
}

pub loop-index-preserved : goal.loop-index-preserved
loop-index-preserved c =
    let before = c.loop-index.invariant in
    record {
      few = omega arith;
      room = omega (
        arith,
        length-set c.loop-index.tsns c.loop-index.index
            c.duplicate_tsn.result.0,
      );
      size = length-set c.loop-index.tsns c.loop-index.index c.duplicate_tsn.result.0 ∙ before.size;
      fills = fills_next Holds c.args.tsns.now c.args.sack.now.duplicates c.loop-index.tsns
          c.loop-index.index
          _ c.duplicate_tsn.result.0 before.fills c.duplicate_tsn.ensures refl;
    }

pub returns : goal.returns
returns c =
    let end = c.loop-index.invariant in
    fills_all Holds c.args.tsns.now c.args.sack.now.duplicates c.loop-index.tsns
    c.duplicate_tsn_count-count.result c.loop-index.index c.duplicate_tsn_count-count.ensures
    end.size end.few end.room (λ lt. omega (arith, lt)) end.fills
