use Rattle.std.proofs.Common.{◌≡◌, ◌∙◌, ◌++◌, ◌∷◌, sym, ap}
use Rattle.std.specs.Int.{w32, to_le_bytes, from_be_bytes}
use Rattle.dcsctp_crc32c.specs.Checksum.{crc32c, packet_word}
use Rattle.dcsctp_crc32c.proofs.packet_word.Goals as goal

word : (c : goal.After-swap_bytes) → c.swap_bytes.result ≡ packet_word c.args.bytes.now
word c =
    c.swap_bytes.ensures
    ∙ ap (λ n. from_be_bytes w32 (to_le_bytes w32 n)) c.packet_crc32c.ensures

pub returns-clause-value : goal.returns-clause-value
returns-clause-value c = word c

pub returns-clause-field_apart : goal.returns-clause-field_apart
returns-clause-field_apart c others front back =
    word c
    ∙ sym
    (λ i. from_be_bytes w32 (to_le_bytes w32 (crc32c (front i ++ 0 ∷ 0 ∷ 0 ∷ 0 ∷ back i))))
