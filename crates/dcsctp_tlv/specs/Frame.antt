-- Items: how a chunk, a parameter or an error cause lies in the bytes (RFC 9260 sections 3.2, 3.2.1
-- and 3.3.10).
--
--   | first byte | second byte | length, two bytes | value .. | padding, none to three bytes |
--
-- For a chunk the first two bytes are its type and its flags; for a parameter or a cause they
-- are its type. The length counts these four bytes and the value, and leaves out the padding.
use Rattle.std.specs.{Prelude.{◌≡◌, ℕ, ◌+◌, ◌-◌, ◌*◌, ◌/◌, ◌%◌, ◌≤◌, ◌<◌, ◌^◌, ◌==◌, Bool, true, false, ◌&&◌, if◌then◌else◌, List, [], ◌∷◌, ◌++◌, length, take, drop}, List.{flat_map, list_all, prefix_len}, Int.{w16, to_be_bytes}}
use Rattle.dcsctp_tlv.specs.Number.{number16}

-- the least multiple of 4 not below n
abbrev pub round_up_to_4 : ℕ → ℕ
round_up_to_4 n = (n + 3) / 4 * 4

-- the greatest multiple of 4 not above n
abbrev pub round_down_to_4 : ℕ → ℕ
round_down_to_4 n = n / 4 * 4

-- how many bytes of padding follow a value of n bytes
abbrev pub padding_size : ℕ → ℕ
padding_size n = round_up_to_4 (4 + n) - (4 + n)

-- the four bytes before a value of n bytes
abbrev pub header : ℕ → ℕ → ℕ → List ℕ
header first second n = first ∷ second ∷ to_be_bytes w16 (4 + n)

-- the same for a parameter or a cause, whose type is in the first two bytes
abbrev pub typed_header : ℕ → ℕ → List ℕ
typed_header typ n = header (typ / 256) (typ % 256) n

pub record Item : Type 0 where
  pub first : ℕ
  pub second : ℕ
  pub value : List ℕ
  pub padding : List ℕ

abbrev pub item_bytes : Item → List ℕ
item_bytes i = header i.first i.second (length i.value) ++ (i.value ++ i.padding)

-- its length field can hold its length
abbrev pub HasLength : Item → Type 0
HasLength i = 4 + length i.value < 2 ^ 16

-- Which padding is accepted: of the bytes that it should have, and those that are there.
abbrev pub PaddingRule : Type 0
PaddingRule = ℕ → List ℕ → Bool

-- any bytes
abbrev pub any_padding : PaddingRule
any_padding size there = true

-- A lenient reader ignores the padding, as a receiver does (RFC 9260 section 3.2). A strict one
-- wants the zeros that a sender writes there.
abbrev pub lenient : Bool
lenient = false

abbrev pub are_zeros : List ℕ → Bool
are_zeros bytes = list_all (λ byte. byte == 0) bytes

-- the offset of the first byte that isn't zero, or the end
abbrev pub first_nonzero : List ℕ → ℕ
first_nonzero bytes = prefix_len (λ byte. byte == 0) bytes

-- Where it is strict, what is there is zero; some may be missing, of the last item of a list.
abbrev pub zero_padding : Bool → PaddingRule
zero_padding strict size there = if strict then are_zeros there else true

-- Where it is strict, what is there is zero, and none is missing.
abbrev pub full_padding : Bool → PaddingRule
full_padding strict size there =
    if strict then (length there == size && are_zeros there) else true

-- with all its padding
pub record IsWhole (rule : PaddingRule) (i : Item) : Type 0 where
  pub fits : HasLength i
  pub padded : length i.padding ≡ padding_size (length i.value)
  pub accepted : rule (padding_size (length i.value)) i.padding ≡ true

-- with all, some or none of its padding, as the last of a list may be
pub record IsLastForm (rule : PaddingRule) (i : Item) : Type 0 where
  pub fits : HasLength i
  pub padded : length i.padding ≤ padding_size (length i.value)
  pub accepted : rule (padding_size (length i.value)) i.padding ≡ true

-- all but the last are whole
abbrev pub AreFormed : PaddingRule → List Item → Type 0
AreFormed rule [] = Unit {0}
AreFormed rule (i ∷ []) = IsLastForm rule i
AreFormed rule (i ∷ j ∷ is) = IsWhole rule i × AreFormed rule (j ∷ is)

-- the bytes are these items, one after the other, and nothing else
pub record AreItems (rule : PaddingRule) (bytes : List ℕ) (items : List Item) : Type 0 where
  pub split : bytes ≡ flat_map item_bytes items
  pub formed : AreFormed rule items

-- what the length field of a frame at the front says
abbrev pub frame_length : List ℕ → ℕ
frame_length bytes = number16 (drop 2 bytes)

-- a header, and a value as long as it says
pub record BeginsWithFrame (bytes : List ℕ) : Type 0 where
  pub header : 4 ≤ length bytes
  pub low : 4 ≤ frame_length bytes
  pub high : frame_length bytes ≤ length bytes

abbrev pub frame_value : List ℕ → List ℕ
frame_value bytes = take (frame_length bytes - 4) (drop 4 bytes)

-- the padding that is there
abbrev pub frame_padding : List ℕ → List ℕ
frame_padding bytes =
    take (round_up_to_4 (frame_length bytes) - frame_length bytes) (drop (frame_length bytes) bytes)

-- what follows the frame and its padding
abbrev pub frame_rest : List ℕ → List ℕ
frame_rest bytes = drop (round_up_to_4 (frame_length bytes)) bytes
