use Rattle.std.proofs.Common.{sym}
use Rattle.dcsctp_chunk.specs.Sack.{IsBlockInWidth, block_at, block_bytes}
use Rattle.dcsctp_borrowed.proofs.{FieldWidths.{block_below, each_below}, PlainRewritten.{block_again}, Rewritten.{fields_again}}
use Rattle.dcsctp_borrowed.proofs.sack_ref.GapAckBlocks.bytes.Goals as goal

pub returns-clause-bytes : goal.returns-clause-bytes
returns-clause-bytes c =
    let b = c.self.inside in
    rw (← c.self.view_is) (sym (fields_again block_at block_bytes 4 block_again b.count b.rest.now
    c.self.invariant c.are_bytes.ensures))

pub returns-clause-width : goal.returns-clause-width
returns-clause-width c =
    let b = c.self.inside in
    rw (← c.self.view_is) (each_below block_at 4 IsBlockInWidth block_below b.count b.rest.now
    c.are_bytes.ensures)
