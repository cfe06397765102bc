-- Numbers on the wire: bytes, most significant first (RFC 9260 section 3).
use Rattle.std.specs.{Prelude.{ℕ, ◌<◌, List, take, slice_index}, List.{flat_map}, Int.{Width, w16, w32, w64, byte_len, from_be_bytes, to_be_bytes}}

-- each element is a byte
abbrev pub AreBytes : List ℕ → Type 0
AreBytes bytes = (i : ℕ) → slice_index bytes i < 256

-- the big-endian number in the first bytes, as many as its width has
abbrev pub number : Width → List ℕ → ℕ
number width bytes = from_be_bytes width (take (byte_len width) bytes)

abbrev pub number16 : List ℕ → ℕ
number16 = number w16

abbrev pub number32 : List ℕ → ℕ
number32 = number w32

abbrev pub number64 : List ℕ → ℕ
number64 = number w64

-- numbers of one width, one after the other
abbrev pub numbers : Width → List ℕ → List ℕ
numbers width ns = flat_map (to_be_bytes width) ns
