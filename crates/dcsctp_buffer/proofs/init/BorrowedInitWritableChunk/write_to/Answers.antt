use Rattle.dcsctp_buffer.{specs.Init.{fields}, proofs.Items.{init_item}, proofs.Numbers.{init_width}}
use Rattle.dcsctp_buffer.proofs.init.BorrowedInitWritableChunk.write_to.Goals as goal

pub returns-clause-written : goal.returns-clause-written
returns-clause-written c =
    init_item c.args.self.now.is_ack c.args.self.now c.args.output.now _ c.requires.room
    (rw (c.chunk_type.ensures, c.fixed.ensures.bytes) at c.put_solid.ensures)

pub returns-clause-width : goal.returns-clause-width
returns-clause-width c = init_width c.args.self.now.is_ack (fields c.args.self.now)
    c.fixed.ensures.width
