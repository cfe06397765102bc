use Rattle.std.proofs.Common.{arith}
use Rattle.dcsctp_tlv.proofs.Places.{padding_within}
use Rattle.dcsctp_tlv.proofs.frame.padding_fault.Goals as goal

pub overflow_add-result : goal.overflow_add-result
overflow_add-result c =
    let within = padding_within c.args.bytes.now c.requires in
    let there = rw (← c.padding_parts.ensures.there) at within in
    omega (arith, there, c.first_nonzero.ensures, c.frame_length.ensures)

pub returns-clause-within : goal.returns-clause-within
returns-clause-within c =
    let within = padding_within c.args.bytes.now c.requires in
    let there = rw (← c.padding_parts.ensures.there) at within in
    omega (arith, there, c.first_nonzero.ensures, c.frame_length.ensures)
