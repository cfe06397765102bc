use Rattle.dump_capture.specs.Found.{packet_of}
use Rattle.dump_packet.specs.Filter.{part_in}
use Rattle.dump_packet.specs.Seen.{chunks_seen}
use Rattle.dump_packet.proofs.Ahead.{are_seen}
use Rattle.dump_packet.proofs.filter.Filter.passes.Goals as goal

pub returns : goal.returns
returns c =
    let packet = part_in (packet_of c.args.found.now) in
    (chunks_seen c.args.fault packet, are_seen c.args.fault packet, c.is_passed.ensures)
