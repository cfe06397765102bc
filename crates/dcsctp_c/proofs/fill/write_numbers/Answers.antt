use Rattle.std.proofs.Common.{◌∙◌, refl, arith, length-set}
use Rattle.dcsctp_c.{specs.Part.{Holds}, proofs.Fills.{fills_none, fills_next, fills_all}}
use Rattle.dcsctp_c.proofs.fill.write_numbers.Goals as goal

pub loop-index-init : goal.loop-index-init
loop-index-init c = record {
  few = omega arith;
  room = omega arith;
  size = refl;
  fills = fills_none Holds c.args.output.now;
}

pub loop-index-preserved : goal.loop-index-preserved
loop-index-preserved c =
    let before = c.loop-index.invariant in
    record {
      few = omega arith;
      room = omega (arith, length-set c.loop-index.output c.loop-index.index c.number.result);
      size = length-set c.loop-index.output c.loop-index.index c.number.result ∙ before.size;
      fills = fills_next Holds c.args.output.now c.args.numbers.now c.loop-index.output
          c.loop-index.index
          _ c.number.result before.fills c.number.ensures refl;
    }

pub returns : goal.returns
returns c =
    let end = c.loop-index.invariant in
    fills_all Holds c.args.output.now c.args.numbers.now c.loop-index.output c.count-count.result
    c.loop-index.index c.count-count.ensures end.size end.few end.room (λ lt. omega (arith, lt))
    end.fills
