use Rattle.std.proofs.Common.{arith, rules, refl, length, nat_le, le-leb}
use Rattle.dcsctp_tlv.{specs.Parameter.{parameters}, proofs.Places.{finds_listed, rule_broken}}
use Rattle.dcsctp_wire.specs.InitFields.{tree_of as init_of, parts as init_parts}
use Rattle.dcsctp_wire.proofs.packet.init_chunk.init_check.Goals as goal

pub returns-clause-found : goal.returns-clause-found
returns-clause-found c =
    let v = c.args.value.now in
    finds_listed (λ value. nat_le 16 (length value)) 16 (parameters c.args.strict) init_of
    init_parts (λ v ps. refl) v c.listed_check.result (le-leb 16 (length v) (omega arith))
    c.listed_check.ensures.found

pub returns-then-value-lt-SIZE-clause-found : goal.returns-then-value-lt-SIZE-clause-found
returns-then-value-lt-SIZE-clause-found c =
    rw c.at_front.ensures (rule_broken (λ value. nat_le 16 (length value)) 16
    (parameters c.args.strict) init_of init_parts c.args.value.now (search rules))
