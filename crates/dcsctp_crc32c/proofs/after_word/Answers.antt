use Rattle.std.proofs.Common.{◌∙◌, ap, sym, take}
use Rattle.std.proofs.Math.Seq.{take-length}
use Rattle.dcsctp_crc32c.specs.Checksum.{after_bytes}
use Rattle.dcsctp_crc32c.proofs.Words.{after_word-bytes}
use Rattle.dcsctp_crc32c.proofs.after_word.Goals as goal

pub returns : goal.returns
returns c =
    let r = c.args.register in
    let bytes = c.args.bytes.now in
    c.moved.ensures
    ∙ after_word-bytes r c.word.result c.word.type_inv
    ∙ ap (after_bytes r) (c.word.ensures ∙ ap (λ n. take n bytes) (sym c.requires)
    ∙ take-length bytes)
