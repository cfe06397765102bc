use Rattle.std.proofs.Common.{ℕ, ◌≡◌, ◌∙◌, ◌+◌, ◌*◌, bit_xor, get_or, ap, arith}
use Rattle.dcsctp_crc32c.specs.Checksum.{after_bits}
use Rattle.dcsctp_crc32c.proofs.Words.{moved-bytes}
use Rattle.dcsctp_crc32c.proofs.moved.Goals as goal

pub returns : goal.returns
returns c =
    let k = c.args.k in
    let low = λ (i : ℕ). ap (λ bs. get_or bs i 0) c.to_le_bytes.ensures in
    let n4 : 8 * (k + 3 + 1) ≡ 8 * (k + 4) = omega arith in
    let n3 : 8 * (k + 2 + 1) ≡ 8 * (k + 3) = omega arith in
    let n2 : 8 * (k + 1 + 1) ≡ 8 * (k + 2) = omega arith in
    let p0 = c.entry.ensures ∙ (λ i. after_bits (n4 i) (low 0 i)) in
    let p1 = c.entry-2.ensures ∙ (λ i. after_bits (n3 i) (low 1 i)) in
    let p2 = c.entry-3.ensures ∙ (λ i. after_bits (n2 i) (low 2 i)) in
    let p3 = c.entry-4.ensures ∙ ap (after_bits (8 * (k + 1))) (low 3) in
    (λ i. bit_xor (bit_xor (bit_xor (p0 i) (p1 i)) (p2 i)) (p3 i))
    ∙ moved-bytes k c.args.word c.ranges.word.fits
