use Rattle.std.proofs.Common.{◌∙◌, ap, bit_xor}
use Rattle.dcsctp_crc32c.specs.Checksum.{extended}
use Rattle.dcsctp_crc32c.proofs.Pieces.{extended-append}
use Rattle.dcsctp_crc32c.proofs.update.Goals as goal

pub returns-clause-pieces : goal.returns-clause-pieces
returns-clause-pieces c before is =
    ap (λ x. bit_xor x 0xFFFFFFFF) c.after_bytes.ensures
    ∙ ap (λ crc. extended crc c.args.bytes.now) is
    ∙ extended-append 0 before c.args.bytes.now
