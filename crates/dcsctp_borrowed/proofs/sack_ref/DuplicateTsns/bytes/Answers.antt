use Rattle.std.{proofs.Common.{◌<◌, ◌^◌, sym}, specs.Int.{w32, to_be_bytes}}
use Rattle.dcsctp_tlv.specs.Number.{number32}
use Rattle.dcsctp_borrowed.proofs.{FieldWidths.{below32, each_below}, Rewritten.{word_again, fields_again}}
use Rattle.dcsctp_borrowed.proofs.sack_ref.DuplicateTsns.bytes.Goals as goal

pub returns-clause-bytes : goal.returns-clause-bytes
returns-clause-bytes c =
    let d = c.self.inside in
    rw (← c.self.view_is) (sym (fields_again number32 (to_be_bytes w32) 4 word_again d.count
    d.rest.now c.self.invariant c.are_bytes.ensures))

pub returns-clause-width : goal.returns-clause-width
returns-clause-width c =
    let d = c.self.inside in
    rw (← c.self.view_is) (each_below number32 4 (λ tsn. tsn < 2 ^ 32) below32 d.count d.rest.now
    c.are_bytes.ensures)
