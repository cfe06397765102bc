use Rattle.std.{proofs.Common.{arith, ◌≡◌, ◌∷◌, [], true, false, ◌==◌, ◌||◌}, specs.Int.{w16, from_be_bytes}, proofs.lemmas.Bool.Decides.{nat_tests}}
use lib.Pointwise.{bytes_decides}
use Rattle.dcsctp_borrowed.specs.Rewritten.{without_reserved}
use Rattle.dcsctp_borrowed.proofs.SameRewritten.{solid_same}
use Rattle.dcsctp_borrowed.proofs.meaning.ParametersCompare.same.Goals as goal

pub returns-in-17 : goal.returns-in-17
returns-in-17 c =
    let typ = from_be_bytes w16 (c.args.first ∷ c.args.second ∷ []) in
    let is : (typ == 17 || typ == 18) ≡ true = grind (arith, nat_tests) in
    rw (← c.if-second-other_second.true.0, ← c.if-second-other_second.true.1, is)
    (solid_same c.args.first c.args.second (without_reserved c.args.value.now)
    (without_reserved c.args.other.now) c.same_unreserved.result c.same_unreserved.ensures)

pub returns-in_default : goal.returns-in_default
returns-in_default c =
    let typ = from_be_bytes w16 (c.args.first ∷ c.args.second ∷ []) in
    let isnt : (typ == 17 || typ == 18) ≡ false = grind (arith, nat_tests) in
    rw (← c.if-second-other_second.true.0, ← c.if-second-other_second.true.1, isnt)
    (solid_same c.args.first c.args.second c.args.value.now c.args.other.now c.eq.result
    (rw c.eq.ensures (bytes_decides c.args.value.now c.args.other.now)))
