use Rattle.std.proofs.Common.{◌≡◌, get_or, refl, arith, ap, below_more}
use Rattle.std.proofs.lemmas.Grind.{same_number_lists}
use borrow.Author.Tests.{eqb-true}
use lib.Bits.{xor_self}
use Rattle.dcsctp_receive.proofs.Differences.{both_zero, no_difference}
use Rattle.dcsctp_receive.proofs.equality.are_equal.Goals as goal

pub loop-i-preserved : goal.loop-i-preserved
loop-i-preserved c = (
  λ e. let zeros = both_zero _ _ e in
      below_more _ _ (c.loop-i.invariant.0 zeros.0) (no_difference _ _ zeros.1),
  λ same. let before : c.loop-i.difference ≡ 0 =
      c.loop-i.invariant.1 (λ k lt. same k (omega arith)) in
      let here : get_or c.args.one.now c.loop-i.i 0 ≡ get_or c.args.other.now c.loop-i.i 0 =
      same c.loop-i.i (omega arith) in
      rw (before, here, xor_self) refl,
)

pub returns : goal.returns
returns c = (
  λ t. let zero : c.loop-i.difference ≡ 0 = eqb-true c.loop-i.difference 0 t in
      same_number_lists _ _ (omega arith) (λ k lt. c.loop-i.invariant.0 zero k (omega arith)),
  λ same. let zero : c.loop-i.difference ≡ 0 =
      c.loop-i.invariant.1 (λ k lt. ap (λ xs. get_or xs k 0) same) in rw zero refl,
)
