use Rattle.std.proofs.{Common.{◌-◌, drop, arith}, lemmas.List.{take_rest}}
use Rattle.dcsctp_chunk.specs.ForwardTsn as forward_kind
use Rattle.dcsctp_chunk.specs.IForwardTsn as iforward_kind
use Rattle.dcsctp_borrowed.proofs.FieldLists.{first_field, stream_count}
use Rattle.dcsctp_borrowed.proofs.forward_tsn_ref.SkippedStreamsIterator.next.Goals as goal

pub returns-then-self-clause-steps : goal.returns-then-self-clause-steps
returns-then-self-clause-steps c =
    let bytes = c.self.inside.rest.now in
    rw (← c.self.view_is, take_rest bytes 8, c.read-stream.ensures, c.if-self.true)
    (first_field iforward_kind.stream_at 8 c.self.inside.count bytes c.if-self-eq0.false)

pub returns-then-self-clause-goes : goal.returns-then-self-clause-goes
returns-then-self-clause-goes c =
    let s = c.self.inside in
    let bytes = s.rest.now in
    let some = c.if-self-eq0.false in
    let before = stream_count s.by_mid s.count bytes in
    let after = stream_count s.by_mid (s.count - 1) (drop 8 bytes) in
    rw (← c.self.view_is, take_rest bytes 8) record
    { on = λ _. (tt, tt, omega (arith, before, after, some)); keeps = tt; rests = λ _. tt }

pub returns-else-self-clause-steps : goal.returns-else-self-clause-steps
returns-else-self-clause-steps c =
    let bytes = c.self.inside.rest.now in
    rw (← c.self.view_is, take_rest bytes 4, c.read-stream-else-self.ensures, c.if-self.false)
    (first_field forward_kind.stream_at 4 c.self.inside.count bytes c.if-self-eq0.false)

pub returns-else-self-clause-goes : goal.returns-else-self-clause-goes
returns-else-self-clause-goes c =
    let s = c.self.inside in
    let bytes = s.rest.now in
    let some = c.if-self-eq0.false in
    let before = stream_count s.by_mid s.count bytes in
    let after = stream_count s.by_mid (s.count - 1) (drop 4 bytes) in
    rw (← c.self.view_is, take_rest bytes 4) record
    { on = λ _. (tt, tt, omega (arith, before, after, some)); keeps = tt; rests = λ _. tt }
