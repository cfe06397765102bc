use Rattle.std.proofs.Common.{◌≡◌, ◌+◌, ◌*◌, ◌<◌, ℕ, true, IsTrue, List, [], ◌∷◌, ◌++◌, length, get_or, drop, refl, sym, ap, subst, ◌∙◌, arith}
use Rattle.std.specs.Char.{digit_value}
use Rattle.std.proofs.lemmas.Bool.Decides.{nat_tests}
use Rattle.std.proofs.lemmas.List.{nil_from_length}
use Rattle.dump_capture.specs.HexBytes.{Continues}
use Rattle.dump_capture.proofs.HexLemmas.{Appends, next_byte, last_byte}
use Rattle.dump_capture.proofs.hex_bytes.append_said.Goals as goal

pub loop-rest-preserved : goal.loop-rest-preserved
loop-rest-preserved c =
    let rest = c.loop-rest.rest.now in
    let next = c.without_blanks_before-rest-in-loop-rest.result.now in
    let byte : c.begins_with_byte.result ≡ true = grind arith in
    let digits = c.begins_with_byte.ensures.digits byte in
    let high = c.digit.ensures.value digits.0 in
    let low = c.digit-in-loop-rest.ensures.value digits.1 in
    let same : 16 * c.digit.result + c.digit-in-loop-rest.result ≡ 16 * digit_value (get_or rest 0 0)
    + digit_value (get_or rest 1 0) = rw (high, low) refl in
    let more : Continues (drop 2 rest) [] next = subst (λ (t : List ℕ). Continues t [] next)
    c.after.ensures c.without_blanks_before-rest-in-loop-rest.ensures.same in
    let items = c.push_reserved.ensures.items
    ∙ ap (λ (b : ℕ). c.loop-rest.output.items ++ b ∷ []) same in
    subst (λ (xs : List ℕ). Appends c.args.text.now next c.args.output.now.items xs) (sym items)
    (next_byte c.args.text.now rest next c.args.output.now.items c.loop-rest.output.items
    c.loop-rest.invariant (c.begins_with_byte.ensures.size byte) digits.0 digits.1 more)

pub returns : goal.returns
returns c = λ whole.
    let none : length c.loop-rest.rest.now ≡ 0 = grind (arith, nat_tests) in
    last_byte c.args.text.now c.loop-rest.rest.now c.args.output.now.items c.loop-rest.output.items
    c.loop-rest.invariant (nil_from_length c.loop-rest.rest.now none)
