-- Addresses that an INIT adds to an association that is there already (RFC 9260 section 5.2.2), and
-- the error cause that lists them (section 3.3.10.11).
use Rattle.std.specs.Prelude.{◌==◌, ◌&&◌, ◌||◌, not, Bool, ℕ, List, map, length}
use Rattle.std.specs.List.{filter, list_any, concat}
use Rattle.dcsctp_borrowed.specs.{Grammar.{whole}, Part.{Item}}
use Rattle.dcsctp_receive.specs.{Chunks.{items_of, is_numbered, is_same}, Unrecognized.{whole_item}}

-- IPv4 Address and IPv6 Address, with addresses of four and of sixteen bytes (sections 3.3.2.1.1
-- and 3.3.2.1.2)
abbrev pub is_address : Item → Bool
is_address p =
    (is_numbered 5 p && length p.value.bytes == 4)
    || (is_numbered 6 p && length p.value.bytes == 16)

-- "addresses [..] that were previously not part of the association", of which these are known
abbrev pub is_new : List Item → Item → Bool
is_new known p = is_address p && not (list_any (is_same p) known)

-- "the endpoint MUST check to see if the unexpected INIT chunk adds new addresses to the
-- association": of two lists of parameters, the association's and the INIT's
abbrev pub adds_addresses : List ℕ → List ℕ → Bool
adds_addresses known list = list_any (is_new (items_of (whole known))) (items_of (whole list))

-- "The new addresses are listed in the error cause", each "an exact copy of the TLV that was found
-- in the INIT chunk"
abbrev pub new_addresses : List ℕ → List ℕ → List ℕ
new_addresses known list =
    concat (map whole_item (filter (is_new (items_of (whole known))) (items_of (whole list))))
