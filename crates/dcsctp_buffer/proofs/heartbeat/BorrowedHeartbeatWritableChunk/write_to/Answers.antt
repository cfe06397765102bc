use Rattle.dcsctp_buffer.proofs.Numbers.{heartbeat_width}
use Rattle.dcsctp_buffer.proofs.heartbeat.BorrowedHeartbeatWritableChunk.write_to.Goals as goal

pub returns-clause-width : goal.returns-clause-width
returns-clause-width c = heartbeat_width c.args.self.now.is_ack c.args.self.now.info.now
    c.bytes_in_width.ensures
