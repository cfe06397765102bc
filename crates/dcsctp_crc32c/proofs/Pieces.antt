-- Bytes in pieces.
use Rattle.std.proofs.Common.{◌≡◌, ◌∙◌, ℕ, ◌+◌, ◌-◌, List, ◌++◌, length, bit_xor, take, drop, ap, sym, arith}
use Rattle.std.proofs.Math.Seq.{take-add}
use Rattle.std.proofs.lemmas.List.{take-append-drop, take_rest}
use Rattle.std.proofs.lemmas.List.Sums.{fold-append}
use lib.Bits.{xor_assoc, xor_self, xor_zero_r}
use Rattle.dcsctp_crc32c.specs.Checksum.{after_byte, after_bytes, extended}

pub after_bytes-append : (register : ℕ) (xs ys : List ℕ)
    → after_bytes register (xs ++ ys) ≡ after_bytes (after_bytes register xs) ys
after_bytes-append register xs ys = fold-append after_byte register xs ys

-- the next n bytes
pub after_bytes-take : (register i n : ℕ) (bytes : List ℕ)
    → after_bytes (after_bytes register (take i bytes)) (take n (drop i bytes))
    ≡ after_bytes register (take (i + n) bytes)
after_bytes-take register i n bytes =
    sym (after_bytes-append register (take i bytes) (take n (drop i bytes)))
    ∙ ap (after_bytes register) (sym (take-add i n bytes))

-- all bytes that are left
pub after_bytes-drop : (register i : ℕ) (bytes : List ℕ)
    → after_bytes (after_bytes register (take i bytes)) (drop i bytes) ≡ after_bytes register bytes
after_bytes-drop register i bytes =
    sym (after_bytes-append register (take i bytes) (drop i bytes)) ∙ ap (after_bytes register)
    (take-append-drop i bytes)

-- a loop's next piece, of n bytes at place p
pub after_bytes-next : (register p n q after : ℕ) (bytes : List ℕ) → p + n ≡ q
    → after ≡ after_bytes register (take p bytes)
    → after_bytes after (take (p + n - p) (drop p bytes)) ≡ after_bytes register (take q bytes)
after_bytes-next register p n q after bytes next is =
    let size : p + n - p ≡ n = omega arith in
    (λ i. after_bytes (is i) (take (size i) (drop p bytes)))
    ∙ after_bytes-take register p n bytes
    ∙ ap (λ m. after_bytes register (take m bytes)) next

-- the last piece, from place p on
pub after_bytes-last : (register p after : ℕ) (bytes : List ℕ)
    → after ≡ after_bytes register (take p bytes)
    → after_bytes after (take (length bytes - p) (drop p bytes)) ≡ after_bytes register bytes
after_bytes-last register p after bytes is =
    (λ i. after_bytes (is i) (take_rest bytes p i)) ∙ after_bytes-drop register p bytes

pub extended-append : (crc : ℕ) (xs ys : List ℕ) → extended (extended crc xs) ys
    ≡ extended crc (xs ++ ys)
extended-append crc xs ys =
    let register = after_bytes (bit_xor crc 0xFFFFFFFF) xs in
    let turned : bit_xor (bit_xor register 0xFFFFFFFF) 0xFFFFFFFF ≡ register =
    xor_assoc register 0xFFFFFFFF 0xFFFFFFFF ∙ ap (bit_xor register) (xor_self 0xFFFFFFFF)
    ∙ xor_zero_r register in
    ap (λ r. bit_xor r 0xFFFFFFFF)
    (ap (λ r. after_bytes r ys) turned ∙ sym (after_bytes-append (bit_xor crc 0xFFFFFFFF) xs ys))
