-- Numbers of two bytes each, as types of addresses (RFC 9260 section 3.3.2.1.5) and identifiers of
-- HMACs (RFC 4895 section 3.3) lie in a value.
use Rattle.std.specs.Prelude.{◌==◌, ◌*◌, ◌/◌, ℕ, List, if◌then◌else◌, Option, Some, None, length}
use Rattle.dcsctp_tlv.specs.{Fields.{fields}, Number.{number16}}

-- nothing of an odd number of bytes
abbrev pub short_numbers_of : List ℕ → Option (List ℕ)
short_numbers_of value =
    let count = length value / 2 in
    if length value == 2 * count then Some (fields number16 2 count value) else None
