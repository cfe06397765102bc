use Rattle.std.proofs.Common.{refl, arith}
use Rattle.dcsctp_tlv.{specs.Frame.{lenient}, proofs.Lists.{is_nil, is_cons}}
use Rattle.dcsctp_wire.specs.Chunk.{chunks}
use Rattle.dcsctp_borrowed.proofs.Fronts.{front, is_front, at_end}
use Rattle.dcsctp_borrowed.proofs.raw_chunks.RawChunksIterator.next.Goals as goal

pub returns-then-is_empty-clause-steps : goal.returns-then-is_empty-clause-steps
returns-then-is_empty-clause-steps c =
    let bytes = c.self.inside.rest.now in
    rw (← c.self.view_is) (at_end (chunks lenient) bytes (is_nil bytes c.is_empty.result
    c.is_empty.ensures c.if-is_empty.true))

pub frame_parts-requires : goal.frame_parts-requires
frame_parts-requires c =
    let some =
    is_cons c.self.inside.rest.now c.is_empty.result c.is_empty.ensures c.if-is_empty.false in
    (front (chunks lenient) c.self.inside.rest.now c.self.invariant some).frame

pub bounds-bytes-1 : goal.bounds-bytes-1
bounds-bytes-1 c =
    let some =
    is_cons c.self.inside.rest.now c.is_empty.result c.is_empty.ensures c.if-is_empty.false in
    let f = front (chunks lenient) c.self.inside.rest.now c.self.invariant some in
    omega (arith, f.size)

pub invariant_of-self : goal.invariant_of-self
invariant_of-self c =
    let some =
    is_cons c.self.inside.rest.now c.is_empty.result c.is_empty.ensures c.if-is_empty.false in
    let f = front (chunks lenient) c.self.inside.rest.now c.self.invariant some in
    rw c.frame_parts.ensures.rest f.left

pub returns-clause-steps : goal.returns-clause-steps
returns-clause-steps c =
    let bytes = c.self.inside.rest.now in
    let some = is_cons bytes c.is_empty.result c.is_empty.ensures c.if-is_empty.false in
    rw (← c.self.view_is) (
      refl,
      refl,
      is_front (chunks lenient) _ bytes _ _ (λ t m. m)
          c.frame_parts.ensures.value c.frame_parts.ensures.rest c.self.invariant some,
    )

pub returns-clause-goes : goal.returns-clause-goes
returns-clause-goes c =
    let bytes = c.self.inside.rest.now in
    let some = is_cons bytes c.is_empty.result c.is_empty.ensures c.if-is_empty.false in
    let f = front (chunks lenient) bytes c.self.invariant some in
    let smaller = f.smaller in
    rw (← c.self.view_is, c.frame_parts.ensures.rest) record {
      on = λ _. (tt, tt, omega (arith, smaller));
      keeps = tt;
      rests = λ _. tt;
    }
