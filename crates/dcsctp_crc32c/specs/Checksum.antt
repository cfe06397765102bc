-- CRC32c, the checksum of SCTP (RFC 9260 appendix A). Its register is a number of 32 bits. Bits
-- enter and leave at the register's low end, the lowest bit of each byte first.
use Rattle.std.specs.Prelude.{ℕ, zero, suc, ◌*◌, ◌/◌, ◌%◌, List, ◌∷◌, ◌++◌, take, drop, fold, bit_xor}
use Rattle.std.specs.Int.{w32, to_le_bytes, from_be_bytes}

-- Castagnoli's polynomial, 0x1EDC6F41, with its bits in reverse order
abbrev pub polynomial : ℕ
polynomial = 0x82F63B78

-- A bit leaves the register; if it is a 1, the polynomial is subtracted, bit by bit without
-- carries.
abbrev pub shifted : ℕ → ℕ
shifted register = bit_xor (register / 2) (register % 2 * polynomial)

-- the register after n bits
unfoldable pub after_bits : ℕ → ℕ → ℕ
after_bits zero register = register
after_bits (suc n) register = after_bits n (shifted register)

-- a byte enters the register, and its eight bits leave
abbrev pub after_byte : ℕ → ℕ → ℕ
after_byte register byte = after_bits 8 (bit_xor register byte)

abbrev pub after_bytes : ℕ → List ℕ → ℕ
after_bytes register bytes = fold after_byte register bytes

-- The CRC32c of bytes and of those before them, whose CRC32c is crc. It is the register's
-- complement.
abbrev pub extended : ℕ → List ℕ → ℕ
extended crc bytes = bit_xor (after_bytes (bit_xor crc 0xFFFFFFFF) bytes) 0xFFFFFFFF

-- 0 is the CRC32c of no bytes: the register begins with ones
abbrev pub crc32c : List ℕ → ℕ
crc32c bytes = extended 0 bytes

-- ---- of a packet

-- with zeros in the checksum field, at bytes 8 to 11 (RFC 9260 section 6.8)
abbrev pub with_zero_field : List ℕ → List ℕ
with_zero_field packet = take 8 packet ++ 0 ∷ 0 ∷ 0 ∷ 0 ∷ drop 12 packet

-- The checksum field of a packet holds its CRC32c least significant byte first; the word is the
-- number that the field is most significant byte first, as all fields are read.
abbrev pub packet_word : List ℕ → ℕ
packet_word packet = from_be_bytes w32 (to_le_bytes w32 (crc32c (with_zero_field packet)))
