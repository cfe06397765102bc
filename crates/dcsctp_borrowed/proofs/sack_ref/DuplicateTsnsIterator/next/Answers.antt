use Rattle.std.proofs.{Common.{◌-◌, drop, arith}, lemmas.List.{take_rest}}
use Rattle.dcsctp_tlv.specs.Number.{number32}
use Rattle.dcsctp_borrowed.proofs.FieldLists.{field_count, first_field}
use Rattle.dcsctp_borrowed.proofs.sack_ref.DuplicateTsnsIterator.next.Goals as goal

pub returns-clause-steps : goal.returns-clause-steps
returns-clause-steps c =
    let bytes = c.self.inside.rest.now in
    rw (← c.self.view_is, take_rest bytes 4, c.read_u32_be.ensures)
    (first_field number32 4 c.self.inside.count bytes c.if-self-eq0.false)

pub returns-clause-goes : goal.returns-clause-goes
returns-clause-goes c =
    let n = c.self.inside.count in
    let bytes = c.self.inside.rest.now in
    let some = c.if-self-eq0.false in
    let before = field_count number32 4 n bytes in
    let after = field_count number32 4 (n - 1) (drop 4 bytes) in
    rw (← c.self.view_is, take_rest bytes 4) record
    { on = λ _. (tt, tt, omega (arith, before, after, some)); keeps = tt; rests = λ _. tt }
