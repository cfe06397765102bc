use Rattle.std.proofs.Common.{sym}
use Rattle.dcsctp_c.proofs.{PlacedPackets.{rest_stays}}
use Rattle.dcsctp_c.proofs.read_many.read_next.Goals as goal

pub returns-clause-after : goal.returns-clause-after
returns-clause-after c =
    let split = c.split_at_mut-room.ensures in
    rest_stays c.args.used c.read_placed.result c.split_at_mut-room.result.0.now
    c.split_at_mut-room.result.1.now c.read_placed.new.rows c.args.rows.now split.front_len
    (sym split.value) c.read_placed.ensures.after
