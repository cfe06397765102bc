-- Numbers in bytes: in a packet most significant byte first, in a capture file in the file's order.
use Rattle.std.specs.Prelude.{◌+◌, ◌-◌, ◌^◌, ℕ, List, min, take, slice_index}
use Rattle.std.specs.Int.{Width, w16, byte_len, from_be_bytes, from_le_bytes, to_be_bytes, to_le_bytes}
use Rattle.dump_capture.specs.declared.pcap.ByteOrder.{ByteOrder}
use Rattle.dump_capture.specs.declared.pcap.ByteOrder.TheVariants.{BigEndian, LittleEndian}

-- the byte at this offset
abbrev pub byte_at : ℕ → List ℕ → ℕ
byte_at offset bytes = slice_index bytes offset

-- the number of the first two bytes, as network protocols write it
abbrev pub number16 : List ℕ → ℕ
number16 bytes = from_be_bytes w16 (take 2 bytes)

-- the number of the first bytes, as many as its width has, in a file's byte order
abbrev pub number_in : ByteOrder → Width → List ℕ → ℕ
number_in BigEndian width bytes = from_be_bytes width (take (byte_len width) bytes)
number_in LittleEndian width bytes = from_le_bytes width (take (byte_len width) bytes)

-- the bytes of a number in a file's byte order
abbrev pub number_bytes : ByteOrder → Width → ℕ → List ℕ
number_bytes BigEndian width n = to_be_bytes width n
number_bytes LittleEndian width n = to_le_bytes width n

-- a count, up to 2^64 - 1
abbrev pub capped : ℕ → ℕ
capped n = min n (2 ^ 64 - 1)

-- the next count
abbrev pub one_more : ℕ → ℕ
one_more n = capped (n + 1)
