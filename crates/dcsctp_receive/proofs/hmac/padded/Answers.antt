use Rattle.std.proofs.Common.{◌≡◌, ◌≢◌, ◌<◌, ℕ, length, bit_xor, map, arith, ◌∙◌, sym, get_or-set_other, get_or-set_same, below_more}
use Rattle.std.proofs.lemmas.Grind.{same_number_lists}
use Rattle.std.proofs.lemmas.List.{length-map, get_or-map}
use Rattle.std.proofs.Math.ListN.{length-set}
use Rattle.dcsctp_receive.proofs.hmac.padded.Goals as goal

pub loop-i-preserved : goal.loop-i-preserved
loop-i-preserved c = (
  simp length-set c.loop-i.invariant.0,
  below_more _ _ (λ k lt. let ne : k ≢ c.loop-i.i = omega arith in
      rw get_or-set_other (c.loop-i.invariant.1 k lt))
      (let room : c.loop-i.i < length c.loop-i.bytes = omega arith in rw get_or-set_same),
)

pub returns : goal.returns
returns c =
    let f : ℕ → ℕ = λ b. bit_xor b c.args.pad in
    let block = c.args.block.now in
    let size : length (map f block) ≡ length block = length-map block f in
    same_number_lists c.loop-i.bytes (map f block) (omega arith)
    (λ k lt. let within : k < length block = omega arith in
    c.loop-i.invariant.1 k (omega arith) ∙ sym (get_or-map f block k 0 0 within))
