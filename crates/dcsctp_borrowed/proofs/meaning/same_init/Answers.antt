use Rattle.std.proofs.Common.{arith}
use Rattle.dcsctp_borrowed.proofs.PutsRewritten.{rest_is, back_is}
use Rattle.dcsctp_borrowed.proofs.SameRewritten.{fronts_tell, init_same}
use Rattle.dcsctp_borrowed.proofs.meaning.same_init.Goals as goal

pub returns-then-eq : goal.returns-then-eq
returns-then-eq c = λ typ flags.
    let value = c.args.value.now in
    let other = c.args.other.now in
    let front = fronts_tell 16 _ _ value other _ c.min-place.ensures c.min-other_place.ensures
    c.eq.ensures in
    let list = rw (
      rest_is c.min-place.result value,
      back_is 16 _ value c.min-place.ensures,
      rest_is c.min-other_place.result other,
      back_is 16 _ other c.min-other_place.ensures,
    ) at c.same_items.ensures.same in
    init_same typ flags value other c.same_items.result
    (λ i. omega (arith, c.type_inv.value i)) (λ i. omega (arith, c.type_inv.other i))
    (λ is. (front.0 c.if-eq.true, list.0 is), λ e. list.1 e.1)

pub returns-else-eq : goal.returns-else-eq
returns-else-eq c = λ typ flags.
    let front = fronts_tell 16 _ _ c.args.value.now c.args.other.now _ c.min-place.ensures
    c.min-other_place.ensures c.eq.ensures in
    init_same typ flags c.args.value.now c.args.other.now c.eq.result
    (λ i. omega (arith, c.type_inv.value i)) (λ i. omega (arith, c.type_inv.other i))
    (λ is. absurd cc, λ e. front.1 e.0)
