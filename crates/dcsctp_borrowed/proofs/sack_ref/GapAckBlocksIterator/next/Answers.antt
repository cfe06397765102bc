use Rattle.std.proofs.{Common.{◌-◌, drop, arith}, lemmas.List.{take_rest}}
use Rattle.dcsctp_chunk.specs.Sack.{block_at}
use Rattle.dcsctp_borrowed.proofs.FieldLists.{field_count, first_field}
use Rattle.dcsctp_borrowed.proofs.sack_ref.GapAckBlocksIterator.next.Goals as goal

pub returns-clause-steps : goal.returns-clause-steps
returns-clause-steps c =
    let bytes = c.self.inside.rest.now in
    rw (
      ← c.self.view_is,
      take_rest bytes 4,
      c.read-block.ensures,
    )
    (first_field block_at 4 c.self.inside.count bytes c.if-self-eq0.false)

pub returns-clause-goes : goal.returns-clause-goes
returns-clause-goes c =
    let n = c.self.inside.count in
    let bytes = c.self.inside.rest.now in
    let some = c.if-self-eq0.false in
    let before = field_count block_at 4 n bytes in
    let after = field_count block_at 4 (n - 1) (drop 4 bytes) in
    rw (← c.self.view_is, take_rest bytes 4) record
    { on = λ _. (tt, tt, omega (arith, before, after, some)); keeps = tt; rests = λ _. tt }
