use Rattle.std.{proofs.Common.{◌<◌, ◌^◌, sym}, specs.Int.{w16, to_be_bytes}}
use Rattle.dcsctp_tlv.specs.Number.{number16}
use Rattle.dcsctp_borrowed.proofs.{FieldWidths.{below16, each_below}, Rewritten.{half_again, fields_again}}
use Rattle.dcsctp_borrowed.proofs.numbers.Numbers.bytes.Goals as goal

pub returns-clause-bytes : goal.returns-clause-bytes
returns-clause-bytes c =
    let n = c.self.inside in
    rw (← c.self.view_is) (sym (fields_again number16 (to_be_bytes w16) 2 half_again n.count
    n.bytes.now c.self.invariant c.are_bytes.ensures))

pub returns-clause-width : goal.returns-clause-width
returns-clause-width c =
    let n = c.self.inside in
    rw (← c.self.view_is) (each_below number16 2 (λ n. n < 2 ^ 16) below16 n.count n.bytes.now
    c.are_bytes.ensures)
