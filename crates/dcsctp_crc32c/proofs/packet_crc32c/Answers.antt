use Rattle.std.proofs.Common.{◌≡◌, ◌∙◌, ◌++◌, ◌-◌, ◌∷◌, [], ℕ, List, length, take, drop, append_assoc, sym, ap, bit_xor}
use Rattle.std.proofs.Math.Nat.{min_comm}
use Rattle.std.proofs.lemmas.List.{take_min, take_rest, drop_min, drop-drop}
use Rattle.dcsctp_crc32c.specs.Checksum.{after_bytes, crc32c}
use Rattle.dcsctp_crc32c.proofs.Pieces.{after_bytes-append, after_bytes-take, after_bytes-drop}
use Rattle.dcsctp_crc32c.proofs.packet_crc32c.Goals as goal

pub returns-then-bytes-lt-BLOCK : goal.returns-then-bytes-lt-BLOCK
returns-then-bytes-lt-BLOCK c =
    let bytes = c.args.bytes.now in
    let zeros = 0 ∷ 0 ∷ 0 ∷ 0 ∷ [] in
    let front : take c.min.result bytes ≡ take 8 bytes =
    ap (λ n. take n bytes) (c.min.ensures ∙ min_comm (length bytes) 8) ∙ take_min 8 bytes in
    let back : take (length bytes - c.min-then-bytes-lt-BLOCK.result) (drop c.min-then-bytes-lt-BLOCK.result bytes) ≡ drop 12 bytes =
    take_rest bytes c.min-then-bytes-lt-BLOCK.result ∙ ap (λ n. drop n bytes) (c.min-then-bytes-lt-BLOCK.ensures
    ∙ min_comm (length bytes) 12) ∙ drop_min 12 bytes in
    c.update-then-bytes-lt-BLOCK.ensures.pieces (take c.min.result bytes ++ zeros)
    (c.update.ensures.pieces (take c.min.result bytes) c.crc32c.ensures)
    ∙ (λ i. crc32c (front i ++ zeros ++ back i))
    ∙ ap crc32c (append_assoc (take 8 bytes) zeros (drop 12 bytes))

pub returns : goal.returns
returns c =
    let ones : ℕ = 0xFFFFFFFF in
    let bytes = c.args.bytes.now in
    let zeros : List ℕ = 0 ∷ 0 ∷ 0 ∷ 0 ∷ [] in
    let eight = after_bytes ones (take 8 bytes) in
    let header = after_bytes eight zeros in
    let first : c.after_words-first.result ≡ after_bytes header (take 4 (drop 12 bytes)) =
    c.after_words-first.ensures
    ∙ (λ i. after_bytes (after_bytes (after_bytes (after_bytes ones (c.word.ensures i))
    (c.word-2.ensures i)) zeros) (c.word-3.ensures i))
    ∙ ap (λ x. after_bytes (after_bytes x zeros) (take 4 (drop 12 bytes)))
    (after_bytes-take ones 4 4 bytes) in
    ap (λ x. bit_xor x ones)
    (c.after_bytes.ensures
    ∙ (λ i. after_bytes (first i) ((take_rest bytes 16 ∙ sym (drop-drop 4 12 bytes)) i))
    ∙ after_bytes-drop header 4 (drop 12 bytes)
    ∙ sym (after_bytes-append eight zeros (drop 12 bytes))
    ∙ sym (after_bytes-append ones (take 8 bytes) (0 ∷ 0 ∷ 0 ∷ 0 ∷ drop 12 bytes)))
