use Rattle.std.proofs.Common.{◌∙◌}
use Rattle.dcsctp_crc32c.proofs.Pieces.{after_bytes-last}
use Rattle.dcsctp_crc32c.proofs.after_rest.Goals as goal

pub returns : goal.returns
returns c =
    c.after_short-2.ensures
    ∙ after_bytes-last c.args.register 16 c.after_block.result c.args.bytes.now c.after_block.ensures
