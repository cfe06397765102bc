use Rattle.std.proofs.Common.{ℕ, ◌/◌, ◌^◌, ap, sym, ◌∙◌, arith}
use Rattle.std.proofs.lemmas.Nat.{pow-add, pow_pos}
use Rattle.std.proofs.Math.Nat.{div-mul-le_self, lt-div-mul-add, div-div-eq-div-mul}
use Rattle.dump_packet.proofs.Buckets.{least, next}
use Rattle.dump_packet.proofs.delays.bucket_of.Goals as goal

pub returns-then-rest-lt16-clause-from : goal.returns-then-rest-lt16-clause-from
returns-then-rest-lt16-clause-from c =
    let o = c.loop-octave.octave in
    let is = c.loop-octave.invariant.is in
    rw (least o c.loop-octave.rest c.loop-octave.invariant.above (omega arith))
    (rw is (div-mul-le_self c.args.units (2 ^ o)))

pub returns-then-rest-lt16-clause-to : goal.returns-then-rest-lt16-clause-to
returns-then-rest-lt16-clause-to c _ =
    let o = c.loop-octave.octave in
    let is = c.loop-octave.invariant.is in
    let end = lt-div-mul-add {a = c.args.units} (pow_pos o) in
    rw (next o c.loop-octave.rest c.loop-octave.invariant.above (omega arith))
    (rw is (omega (arith, end)))

pub loop-octave-preserved : goal.loop-octave-preserved
loop-octave-preserved c = record {
  is =
      ap (λ (n : ℕ). n / 2) c.loop-octave.invariant.is
      ∙ (div-div-eq-div-mul c.args.units (2 ^ c.loop-octave.octave) 2
      ∙ ap (λ (n : ℕ). c.args.units / n) (sym (pow-add 2 c.loop-octave.octave 1)));
  above = λ _. omega arith;
}
