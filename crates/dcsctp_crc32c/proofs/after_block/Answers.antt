use Rattle.std.proofs.Common.{◌∙◌, ap, sym, take, drop}
use Rattle.std.proofs.Math.Seq.{take-length}
use Rattle.dcsctp_crc32c.specs.Checksum.{after_bytes}
use Rattle.dcsctp_crc32c.proofs.Pieces.{after_bytes-take}
use Rattle.dcsctp_crc32c.proofs.after_block.Goals as goal

pub returns : goal.returns
returns c =
    let r = c.args.register in
    let bytes = c.args.block.now in
    c.after_words.ensures
    ∙ (λ i. after_bytes (after_bytes (after_bytes (after_bytes r (c.word.ensures i))
    (c.word-2.ensures i)) (c.word-3.ensures i)) (c.word-4.ensures i))
    ∙ ap (λ x. after_bytes (after_bytes x (take 4 (drop 8 bytes))) (take 4 (drop 12 bytes)))
    (after_bytes-take r 4 4 bytes)
    ∙ ap (λ x. after_bytes x (take 4 (drop 12 bytes))) (after_bytes-take r 8 4 bytes)
    ∙ after_bytes-take r 12 4 bytes
    ∙ ap (after_bytes r) (ap (λ n. take n bytes) (sym c.requires) ∙ take-length bytes)
