use Rattle.std.{proofs.Common.{arith, ◌≡◌, true, false, ◌==◌, ◌||◌}, proofs.lemmas.Bool.Decides.{nat_tests}}
use lib.Pointwise.{bytes_decides}
use Rattle.dcsctp_borrowed.specs.Rewritten.{cause_again, parameter_again, without_reserved, value_again}
use Rattle.dcsctp_borrowed.proofs.SameRewritten.{solid_same, listed_same, parameters_short, causes_short}
use Rattle.dcsctp_borrowed.proofs.meaning.same_chunk.Goals as goal

pub returns-in-6 : goal.returns-in-6
returns-in-6 c = λ flags.
    let typ = c.args.typ in
    let init : (typ == 1 || typ == 2) ≡ false = grind (arith, nat_tests) in
    let list : (typ == 4 || typ == 5 || typ == 130) ≡ false = grind (arith, nat_tests) in
    let is : (typ == 6 || typ == 9) ≡ true = grind (arith, nat_tests) in
    rw (init, list, is) (listed_same cause_again causes_short typ flags
    c.args.value.now c.args.other.now c.same_items.result c.same_items.ensures.fits.0
    c.same_items.ensures.fits.1 c.same_items.ensures.same)

pub returns-in-64 : goal.returns-in-64
returns-in-64 c = λ flags.
    rw c.in-64.is (solid_same 64 flags
    (without_reserved c.args.value.now) (without_reserved c.args.other.now)
    c.same_unreserved.result c.same_unreserved.ensures)

pub returns-in-194 : goal.returns-in-194
returns-in-194 c = λ flags.
    rw c.in-194.is (solid_same 194 flags
    (value_again 194 c.args.value.now) (value_again 194 c.args.other.now)
    c.same_streams.result c.same_streams.ensures)

pub returns-in-1 : goal.returns-in-1
returns-in-1 c = λ flags.
    let typ = c.args.typ in
    let is : (typ == 1 || typ == 2) ≡ true = grind (arith, nat_tests) in
    rw is (c.same_init.ensures typ flags)

pub returns-in_default : goal.returns-in_default
returns-in_default c = λ flags.
    let typ = c.args.typ in
    let init : (typ == 1 || typ == 2) ≡ false = grind (arith, nat_tests) in
    let list : (typ == 4 || typ == 5 || typ == 130) ≡ false = grind (arith, nat_tests) in
    let causes : (typ == 6 || typ == 9) ≡ false = grind (arith, nat_tests) in
    let idata : (typ == 64) ≡ false = grind (arith, nat_tests) in
    let iforward : (typ == 194) ≡ false = grind (arith, nat_tests) in
    rw (init, list, causes, idata, iforward) (solid_same typ flags
    c.args.value.now c.args.other.now c.eq.result
    (rw c.eq.ensures (bytes_decides c.args.value.now c.args.other.now)))

pub returns-in-4 : goal.returns-in-4
returns-in-4 c = λ flags.
    let typ = c.args.typ in
    let init : (typ == 1 || typ == 2) ≡ false = grind (arith, nat_tests) in
    let is : (typ == 4 || typ == 5 || typ == 130) ≡ true = grind (arith, nat_tests) in
    rw (init, is) (listed_same parameter_again parameters_short typ flags
    c.args.value.now c.args.other.now c.same_items-in-4.result c.same_items-in-4.ensures.fits.0
    c.same_items-in-4.ensures.fits.1 c.same_items-in-4.ensures.same)
