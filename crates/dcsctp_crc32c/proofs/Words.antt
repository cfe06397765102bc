-- Four bytes as one word, least significant byte first: they enter the register at once.
use Rattle.std.proofs.Common.{◌≡◌, ◌∙◌, ℕ, ◌+◌, ◌*◌, ◌/◌, ◌%◌, ◌^◌, ◌<◌, bit_xor, arith, sym, ap}
use Rattle.std.specs.Int.{w32, to_le_bytes}
use Rattle.std.proofs.lemmas.Nat.{shr-shr}
use lib.Bits.{xor_assoc, xor_zero_r}
use Rattle.dcsctp_crc32c.specs.Checksum.{after_bits, after_byte, after_bytes}
use Rattle.dcsctp_crc32c.proofs.Linear.{after_bits-xor, after_bits-add, after_bits-enters, after_bits-split}

-- the bytes of a word, moved one by one over those after them and k more
pub moved-bytes : (k w : ℕ) → w < 2 ^ 32
    → bit_xor (bit_xor (bit_xor (after_bits (8 * (k + 4)) (w % 2 ^ 8))
    (after_bits (8 * (k + 3)) (w / 2 ^ 8 % 2 ^ 8))) (after_bits (8 * (k + 2)) (w / 2 ^ 16 % 2 ^ 8)))
    (after_bits (8 * (k + 1)) (w / 2 ^ 24 % 2 ^ 8))
    ≡ after_bits (8 * (k + 4)) w
moved-bytes k w small =
    let A = after_bits (8 * (k + 4)) (w % 2 ^ 8) in
    let B = after_bits (8 * (k + 3)) (w / 2 ^ 8 % 2 ^ 8) in
    let C = after_bits (8 * (k + 2)) (w / 2 ^ 16 % 2 ^ 8) in
    let last = after_bits (8 * (k + 1)) in
    let top : w / 2 ^ 24 % 2 ^ 8 ≡ w / 2 ^ 24 = omega (arith, small) in
    let one = after_bits-split (8 * (k + 3)) (8 * (k + 4)) w (omega arith) in
    let two = after_bits-split (8 * (k + 2)) (8 * (k + 3)) (w / 2 ^ 8) (omega arith)
    ∙ ap (λ x. bit_xor B (after_bits (8 * (k + 2)) x)) (shr-shr w 8 8) in
    let three = after_bits-split (8 * (k + 1)) (8 * (k + 2)) (w / 2 ^ 16) (omega arith)
    ∙ ap (λ x. bit_xor C (last x)) (shr-shr w 16 8) in
    ap (λ x. bit_xor (bit_xor (bit_xor A B) C) (last x)) top
    ∙ xor_assoc (bit_xor A B) C (last (w / 2 ^ 24))
    ∙ xor_assoc A B (bit_xor C (last (w / 2 ^ 24)))
    ∙ sym (one ∙ ap (bit_xor A) (two ∙ ap (bit_xor B) three))

-- a word enters as its bytes do
pub after_word-bytes : (r w : ℕ) → w < 2 ^ 32
    → after_bits 32 (bit_xor r w) ≡ after_bytes r (to_le_bytes w32 w)
after_word-bytes r w small =
    let r1 = after_byte r (w % 2 ^ 8) in
    let r2 = after_byte r1 (w / 2 ^ 8 % 2 ^ 8) in
    let r3 = after_byte r2 (w / 2 ^ 16 % 2 ^ 8) in
    let r4 = after_byte r3 (w / 2 ^ 24 % 2 ^ 8) in
    let none : w / 2 ^ 32 ≡ 0 = omega (arith, small) in
    after_bits-add 8 24 (bit_xor r w) ∙ ap (after_bits 24) (after_bits-enters 8 r w)
    ∙ after_bits-add 8 16 (bit_xor r1 (w / 2 ^ 8))
    ∙ ap (after_bits 16) (after_bits-enters 8 r1 (w / 2 ^ 8) ∙ ap (bit_xor r2) (shr-shr w 8 8))
    ∙ after_bits-add 8 8 (bit_xor r2 (w / 2 ^ 16))
    ∙ ap (after_bits 8) (after_bits-enters 8 r2 (w / 2 ^ 16) ∙ ap (bit_xor r3) (shr-shr w 16 8))
    ∙ after_bits-enters 8 r3 (w / 2 ^ 24) ∙ ap (bit_xor r4) (shr-shr w 24 8 ∙ none) ∙ xor_zero_r r4

-- a word goes past the m bits after it by itself, and so does the register
after_word-apart : (m r w : ℕ) → w < 2 ^ 32 → after_bits m (after_bytes r (to_le_bytes w32 w))
    ≡ bit_xor (after_bits (32 + m) r) (after_bits (32 + m) w)
after_word-apart m r w small =
    ap (after_bits m) (sym (after_word-bytes r w small)) ∙ sym (after_bits-add 32 m (bit_xor r w))
    ∙ after_bits-xor (32 + m) r w

-- four words: each goes past those after it by itself
pub words_apart : (r a b c d : ℕ) → a < 2 ^ 32 → b < 2 ^ 32 → c < 2 ^ 32 → d < 2 ^ 32
    → bit_xor (after_bits 128 (bit_xor r a))
    (bit_xor (bit_xor (after_bits 96 b) (after_bits 64 c)) (after_bits 32 d))
    ≡ after_bytes (after_bytes (after_bytes (after_bytes r (to_le_bytes w32 a)) (to_le_bytes w32 b))
    (to_le_bytes w32 c)) (to_le_bytes w32 d)
unfolding after_bits
words_apart r a b c d fa fb fc fd =
    let A = after_bits 128 (bit_xor r a) in
    let B = after_bits 96 b in
    let C = after_bits 64 c in
    let D = after_bits 32 d in
    let r1 = after_bytes r (to_le_bytes w32 a) in
    let r2 = after_bytes r1 (to_le_bytes w32 b) in
    let r3 = after_bytes r2 (to_le_bytes w32 c) in
    let one : A ≡ after_bits 96 r1 =
    after_bits-add 32 96 (bit_xor r a) ∙ ap (after_bits 96) (after_word-bytes r a fa) in
    sym (xor_assoc A (bit_xor B C) D)
    ∙ ap (λ x. bit_xor x D) (sym (xor_assoc A B C)
    ∙ ap (λ x. bit_xor x C) (ap (λ x. bit_xor x B) one ∙ sym (after_word-apart 64 r1 b fb))
    ∙ sym (after_word-apart 32 r2 c fc))
    ∙ sym (after_word-apart 0 r3 d fd)
