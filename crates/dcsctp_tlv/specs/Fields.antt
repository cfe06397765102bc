-- Fields of one size in a row, as gap ack blocks and TSNs (RFC 9260 section 3.3.4), stream ids
-- (RFC 6525 section 4) or skipped streams (RFC 3758 section 3.2) lie in a value.
use Rattle.std.specs.{Prelude.{ℕ, ◌+◌, ◌*◌, ◌/◌, ◌%◌, List, ◌++◌, length, drop, map}, Int.{w32}, List.{flat_map, range_with_len}}
use Rattle.dcsctp_tlv.specs.{Format.{flagged_tlv}, Image.{Tlv}, Number.{numbers}}
use Rattle.dcsctp_types.specs.declared.api.stream_id.StreamId.{StreamId}

-- `count` fields of a size: field i is read where i such fields end
abbrev pub fields : {A : Type 0} → (List ℕ → A) → ℕ → ℕ → List ℕ → List A
fields read size count bytes = map (λ i. read (drop (size * i) bytes)) (range_with_len 0 count)

-- an item with numbers of four bytes in its value, and after them fields of a size
abbrev pub numbers_and_fields_tlv
    : {A : Type 0} → ℕ → ℕ → List ℕ → (A → List ℕ) → ℕ → List A → Tlv
numbers_and_fields_tlv first second leading bytes size list =
    flagged_tlv first second (4 * length leading + size * length list)
    (numbers w32 leading ++ flat_map bytes list)

-- the same of a parameter or a cause
abbrev pub fields_tlv : {A : Type 0} → ℕ → List ℕ → (A → List ℕ) → ℕ → List A → Tlv
fields_tlv typ leading bytes size list =
    numbers_and_fields_tlv (typ / 256) (typ % 256) leading bytes size list

abbrev pub stream_numbers : List StreamId → List ℕ
stream_numbers streams = map (λ id. id.0) streams
