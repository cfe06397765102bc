use Rattle.std.proofs.Common.{◌<◌, ◌≤◌, ◌-◌, ℕ, nat_le, length, sym, subst, ap, ◌∙◌}
use Rattle.std.proofs.lemmas.Bool.{le-leb, lt-leb, and_from, and_left, and_right}
use Rattle.dcsctp_tlv.specs.Frame.{round_up_to_4}
use Rattle.dcsctp_borrowed.specs.Part.{part_of, after, begins_with_item, length_field}
use Rattle.dcsctp_receive.specs.ChunkTest.{meets_test}
use Rattle.dump_packet.proofs.Ahead.{LooksAhead, LooksAhead-on, LooksAhead-found, LooksAhead-last, LooksAhead-end}
use Rattle.dump_packet.proofs.filter.seen.some_ahead.Goals as goal

pub returns-then-is_met : goal.returns-then-is_met
returns-then-is_met c =
    let rest = c.loop-rest.rest in
    let test = meets_test c.args.test in
    sym (LooksAhead-found test c.args.ahead (part_of c.args.chunks) c.loop-rest.left (part_of rest)
    (le-leb 4 (length rest.bytes.now) c.loop-rest-test.true)
    (ap test (sym c.front_chunk.ensures) ∙ sym c.is_met.ensures ∙ c.if-is_met.true)
    c.loop-rest.invariant)

pub returns-in_default : goal.returns-in_default
returns-in_default c =
    let rest = c.loop-rest.rest in
    let p = part_of rest in
    let left = c.loop-rest.left in
    let test = meets_test c.args.test in
    sym (LooksAhead-last test c.args.ahead (part_of c.args.chunks) left p
    (le-leb 4 (length rest.bytes.now) c.loop-rest-test.true)
    (and_left (begins_with_item p) (nat_le (round_up_to_4 (length_field p)) left)
    c.in_default.ensures)
    (ap test (sym c.front_chunk.ensures) ∙ sym c.is_met.ensures ∙ c.if-is_met.false)
    c.loop-rest.invariant)

pub returns-then-chunk-left : goal.returns-then-chunk-left
returns-then-chunk-left c =
    let rest = c.loop-rest.rest in
    let p = part_of rest in
    let left = c.loop-rest.left in
    let test = meets_test c.args.test in
    let padded = round_up_to_4 (length_field p) in
    let long = subst (λ (n : ℕ). left < n) c.in-Some.ensures.2 c.if-chunk-left.true in
    sym (LooksAhead-last test c.args.ahead (part_of c.args.chunks) left p
    (le-leb 4 (length rest.bytes.now) c.loop-rest-test.true)
    (and_right (begins_with_item p) (nat_le padded left) (lt-leb padded left long))
    (ap test (sym c.front_chunk.ensures) ∙ sym c.is_met.ensures ∙ c.if-is_met.false)
    c.loop-rest.invariant)

pub loop-rest-preserved : goal.loop-rest-preserved
loop-rest-preserved c =
    let p = part_of c.loop-rest.rest in
    let all = part_of c.args.chunks in
    let left = c.loop-rest.left in
    let test = meets_test c.args.test in
    let padded = round_up_to_4 (length_field p) in
    let short = subst (λ (n : ℕ). n ≤ left) c.in-Some.ensures.2 c.if-chunk-left.false in
    subst (LooksAhead test c.args.ahead all (left - c.in-Some.chunk.padded))
    (sym c.after-rest.ensures)
    (subst (λ (n : ℕ). LooksAhead test c.args.ahead all (left - n) (after n p))
    (sym c.in-Some.ensures.2)
    (LooksAhead-on test c.args.ahead all left p
    (and_from (begins_with_item p) (nat_le padded left) c.in-Some.ensures.0
    (le-leb padded left short))
    (ap test (sym c.front_chunk.ensures) ∙ sym c.is_met.ensures ∙ c.if-is_met.false)
    c.loop-rest.invariant))

pub returns : goal.returns
returns c =
    let rest = c.loop-rest.rest in
    sym (LooksAhead-end (meets_test c.args.test) c.args.ahead (part_of c.args.chunks)
    c.loop-rest.left (part_of rest)
    (lt-leb 4 (length rest.bytes.now) c.loop-rest-test.false) c.loop-rest.invariant)
