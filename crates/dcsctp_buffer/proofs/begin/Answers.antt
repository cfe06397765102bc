use Rattle.std.proofs.Common.{refl}
use Rattle.dcsctp_buffer.proofs.Buffers.{begins}
use Rattle.dcsctp_buffer.proofs.begin.Goals as goal

pub returns-clause-begun : goal.returns-clause-begun
returns-clause-begun c begun =
    (begins c.args.buffer.now c.put_bytes.new.output c.bytes.result c.args.source_port
    c.args.destination_port c.args.verification_tag
    c.ranges.source_port.fits c.ranges.destination_port.fits c.ranges.verification_tag.fits
    c.if-buffer-lt-COMMON_HEADER_SIZE.false (c.bytes.ensures.canonical refl) c.put_bytes.ensures).0

pub returns-clause-after : goal.returns-clause-after
returns-clause-after c =
    (begins c.args.buffer.now c.put_bytes.new.output c.bytes.result c.args.source_port
    c.args.destination_port c.args.verification_tag
    c.ranges.source_port.fits c.ranges.destination_port.fits c.ranges.verification_tag.fits
    c.if-buffer-lt-COMMON_HEADER_SIZE.false (c.bytes.ensures.canonical refl) c.put_bytes.ensures).1
