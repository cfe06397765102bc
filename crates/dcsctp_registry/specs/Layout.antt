-- How the value of a type is laid out that has no kind of its own, and what such a value holds.
--
--   | numbers of four bytes | numbers of two | reserved | an address | the rest |
--
-- Each part may be missing (RFC 9260 sections 3.3.2.1 and 3.3.10, RFC 4895 sections 3 to 5, RFC
-- 5061 section 4).
use Rattle.std.specs.{Prelude.{◌==◌, ◌||◌, ◌&&◌, ◌+◌, ◌*◌, ◌/◌, ℕ, nat_le, Bool, true, false, List, [], ◌++◌, if◌then◌else◌, Option, Some, None, length, take, drop, replicate, slice_get}, Int.{w16, w32}, Option.{option_and_then, unwrap_or}}
use Rattle.dcsctp_tlv.specs.{Fields.{fields}, Frame.{frame_length, typed_header}, Number.{number16, number32, numbers}}
use Rattle.dcsctp_registry.specs.Items.{are_items_of}
use Rattle.dcsctp_registry.specs.declared.layout.{AddressForm.{AddressForm}, Layout.{Layout}, Rest.{Rest}}
use Rattle.dcsctp_registry.specs.declared.layout.AddressForm.TheVariants as address
use Rattle.dcsctp_registry.specs.declared.layout.Rest.TheVariants as rest

-- What a value holds: numbers of four bytes each, and of two; the octets of an address; the rest by
-- its bytes.
pub record Registered : Type 0 where
  pub layout : Layout
  pub numbers : List ℕ
  pub short_numbers : List ℕ
  pub address : Option (List ℕ)
  pub rest : Option (List ℕ)

-- with the first of these numbers, as many as the layout has
abbrev pub with_numbers : Layout → List ℕ → List ℕ → Option (List ℕ) → Option (List ℕ)
    → Registered
with_numbers l numbers short_numbers address rest = record {
  layout = l;
  numbers = take l.numbers numbers;
  short_numbers = take l.short_numbers short_numbers;
  address = address;
  rest = rest;
}

-- ---- what a layout allows

-- An address isn't there; or its octets are, of IPv4 or of IPv6; or a parameter is, IPv4 Address or
-- IPv6 Address (RFC 9260 sections 3.3.2.1.1 and 3.3.2.1.2).
abbrev pub octets_allowed : AddressForm → List ℕ → Bool
octets_allowed address.Nothing octets = false
octets_allowed address.Ipv4 octets = length octets == 4
octets_allowed address.Ipv6 octets = length octets == 16
octets_allowed address.Parameter octets = length octets == 4 || length octets == 16

abbrev pub has_none : AddressForm → Bool
has_none address.Nothing = true
has_none address.Ipv4 = false
has_none address.Ipv6 = false
has_none address.Parameter = false

abbrev pub address_allows : AddressForm → Option (List ℕ) → Bool
address_allows form None = has_none form
address_allows form (Some octets) = octets_allowed form octets

abbrev pub count_at : List ℕ → ℕ → ℕ
count_at ns i = unwrap_or (slice_get ns i) 0

-- Any bytes; numbers of two bytes each; parameters or error causes; or three lists one after the
-- other, of four bytes each, whose counts are the numbers of two bytes.
abbrev pub bytes_allowed : Rest → List ℕ → List ℕ → Bool
bytes_allowed rest.Nothing counts bytes = false
bytes_allowed rest.Bytes counts bytes = true
bytes_allowed rest.ShortNumbers counts bytes = length bytes == 2 * (length bytes / 2)
bytes_allowed rest.Items counts bytes = are_items_of (length bytes) bytes
bytes_allowed rest.Lists counts bytes =
    length bytes == 4 * (count_at counts 0 + count_at counts 1 + count_at counts 2)

abbrev pub is_nothing : Rest → Bool
is_nothing rest.Nothing = true
is_nothing rest.Bytes = false
is_nothing rest.ShortNumbers = false
is_nothing rest.Items = false
is_nothing rest.Lists = false

abbrev pub rest_allows : Rest → List ℕ → Option (List ℕ) → Bool
rest_allows r counts None = is_nothing r
rest_allows r counts (Some bytes) = bytes_allowed r counts bytes

-- no layout has more than this before the address
abbrev pub has_room : Layout → Bool
has_room l = nat_le l.numbers 2 && (nat_le l.short_numbers 3 && nat_le l.reserved 2)

-- it has what its layout says
abbrev pub is_laid_out : Registered → Bool
is_laid_out r =
    has_room r.layout
    && (length r.numbers == r.layout.numbers && (length r.short_numbers == r.layout.short_numbers
    && (address_allows r.layout.address r.address
    && rest_allows r.layout.rest r.short_numbers r.rest)))

abbrev pub laid_out : Registered → Option Registered
laid_out r = if is_laid_out r then Some r else None

-- ---- as it is read

-- how many bytes are before the address
abbrev pub front_size : Layout → ℕ
front_size l = 4 * l.numbers + 2 * l.short_numbers + l.reserved

-- how many bytes are before its octets
abbrev pub header_size : AddressForm → ℕ
header_size address.Nothing = 0
header_size address.Ipv4 = 0
header_size address.Ipv6 = 0
header_size address.Parameter = 4

-- the bytes begin with the header of a parameter of this type and this length
abbrev pub begins_with : ℕ → ℕ → List ℕ → Bool
begins_with typ size bytes =
    nat_le 4 (length bytes) && (number16 bytes == typ && frame_length bytes == size)

-- so many octets after a header, and what follows them
abbrev pub octets_at : ℕ → ℕ → List ℕ → Option (Option (List ℕ) × List ℕ)
octets_at header n bytes =
    if nat_le (header + n) (length bytes)
    then Some (Some (take n (drop header bytes)), drop (header + n) bytes) else None

-- the address at the front of bytes, and what follows it; nothing where the form's isn't there
abbrev pub split_address : AddressForm → List ℕ → Option (Option (List ℕ) × List ℕ)
split_address address.Nothing bytes = Some (None, bytes)
split_address address.Ipv4 bytes = octets_at 0 4 bytes
split_address address.Ipv6 bytes = octets_at 0 16 bytes
split_address address.Parameter bytes =
    if begins_with 5 8 bytes then octets_at 4 4 bytes else
    if begins_with 6 20 bytes then octets_at 4 16 bytes else
    None

-- the bytes that are left; none where a layout without a rest is at its end
abbrev pub rest_in : Rest → List ℕ → Option (List ℕ)
rest_in r bytes = if is_nothing r && length bytes == 0 then None else Some bytes

abbrev pub parts_at : Layout → List ℕ → Option (List ℕ) × List ℕ → Option Registered
parts_at l value parts = laid_out (record {
  layout = l;
  numbers = fields number32 4 l.numbers value;
  short_numbers = fields number16 2 l.short_numbers (drop (4 * l.numbers) value);
  address = parts.0;
  rest = rest_in l.rest parts.1;
})

-- what a value holds by a layout; nothing where it isn't laid out so
abbrev pub read : Layout → List ℕ → Option Registered
read l value =
    if has_room l && nat_le (front_size l) (length value)
    then option_and_then (parts_at l value) (split_address l.address (drop (front_size l) value))
    else None

-- ---- as it is written

-- the header of IPv4 Address, or of IPv6 Address, by their octets
abbrev pub header_of : AddressForm → List ℕ → List ℕ
header_of address.Nothing octets = []
header_of address.Ipv4 octets = []
header_of address.Ipv6 octets = []
header_of address.Parameter octets =
    if length octets == 4 then typed_header 5 4 else typed_header 6 16

abbrev pub address_bytes : AddressForm → Option (List ℕ) → List ℕ
address_bytes form None = []
address_bytes form (Some octets) = header_of form octets ++ octets

-- the numbers, and the reserved bytes, which are zero
abbrev pub front_bytes : Registered → List ℕ
front_bytes r =
    numbers w32 r.numbers ++ (numbers w16 r.short_numbers ++ replicate r.layout.reserved 0)

abbrev pub value_of : Registered → List ℕ
value_of r =
    front_bytes r ++ (address_bytes r.layout.address r.address ++ unwrap_or r.rest [])
