use Rattle.std.proofs.Common.{arith}
use Rattle.dcsctp_tlv.{specs.Frame.{lenient}, specs.Parameter.{parameters, row}, proofs.Lists.{is_nil, is_cons}}
use Rattle.dcsctp_borrowed.proofs.Fronts.{front, typed_front, at_end}
use Rattle.dcsctp_borrowed.proofs.raw_parameters.RawParametersIterator.next.Goals as goal

pub returns-then-is_empty-clause-steps : goal.returns-then-is_empty-clause-steps
returns-then-is_empty-clause-steps c =
    let bytes = c.self.inside.rest.now in
    rw (← c.self.view_is) (at_end (parameters lenient) bytes (is_nil bytes c.is_empty.result
    c.is_empty.ensures c.if-is_empty.true))

pub front_parts-requires : goal.front_parts-requires
front_parts-requires c =
    let some =
    is_cons c.self.inside.rest.now c.is_empty.result c.is_empty.ensures c.if-is_empty.false in
    (front (parameters lenient) c.self.inside.rest.now c.self.invariant some).frame

pub invariant_of-self : goal.invariant_of-self
invariant_of-self c =
    let some =
    is_cons c.self.inside.rest.now c.is_empty.result c.is_empty.ensures c.if-is_empty.false in
    let f = front (parameters lenient) c.self.inside.rest.now c.self.invariant some in
    rw c.front_parts.ensures.rest f.left

pub returns-clause-steps : goal.returns-clause-steps
returns-clause-steps c =
    let bytes = c.self.inside.rest.now in
    let some = is_cons bytes c.is_empty.result c.is_empty.ensures c.if-is_empty.false in
    let is = c.front_parts.ensures in
    let raw = c.front_parts.result.0 in
    rw (← c.self.view_is) (
      is.typ,
      typed_front (parameters lenient) row (λ a b value t m. m) bytes
          raw.typ raw.value.now c.front_parts.result.1.now is.typ is.value is.rest c.self.invariant
          some,
    )

pub returns-clause-goes : goal.returns-clause-goes
returns-clause-goes c =
    let bytes = c.self.inside.rest.now in
    let some = is_cons bytes c.is_empty.result c.is_empty.ensures c.if-is_empty.false in
    let f = front (parameters lenient) bytes c.self.invariant some in
    let smaller = f.smaller in
    rw (← c.self.view_is, c.front_parts.ensures.rest) record {
      on = λ _. (tt, tt, omega (arith, smaller));
      keeps = tt;
      rests = λ _. tt;
    }
