use Rattle.std.proofs.Common.{◌∙◌, bit_xor}
use Rattle.dcsctp_crc32c.proofs.Words.{words_apart}
use Rattle.dcsctp_crc32c.proofs.after_words.Goals as goal

pub returns : goal.returns
returns c =
    (λ i. bit_xor (c.moved-4.ensures i)
    (bit_xor (bit_xor (c.moved.ensures i) (c.moved-2.ensures i)) (c.moved-3.ensures i)))
    ∙ words_apart c.args.register c.args.a c.args.b c.args.c c.args.d c.ranges.a.fits
    c.ranges.b.fits c.ranges.c.fits c.ranges.d.fits
