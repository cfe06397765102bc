-- Incoming SSN Reset Request (RFC 6525 section 4.2): type 14; the value is the request number, four
-- bytes, and then stream ids, two bytes each.
use Rattle.std.specs.{Prelude.{ℕ, ◌+◌, ◌-◌, ◌*◌, ◌/◌, ◌<◌, ◌^◌, List, [], ◌∷◌, ◌++◌, ◌==◌, Result, Ok, Err, if◌then◌else◌, length, drop, codes, refl}, Fmt.{decimal}, List.{AllByRecursion}, Int.{w16, w32}}
use Rattle.dcsctp_tlv.specs.{Kind.{Fault, Length, fields, stream_numbers, number16, number32, numbers, Format, sized_tlv, length-words, Kind, plain_kind, Varied}, declared.parameter.incoming_ssn_reset_request_parameter.IncomingSsnResetRequestParameter.{IncomingSsnResetRequestParameter}}

pub record Tree : Type 0 where
  pub request : ℕ
  pub streams : List ℕ

-- how many stream ids follow the number
abbrev pub stream_count : List ℕ → ℕ
stream_count value = (length value - 4) / 2

-- the value has at least 4 bytes, and after them an even number
abbrev pub read : List ℕ → Result Tree Fault
read value =
    if length value == 4 + 2 * stream_count value then Ok (record {
      request = number32 value;
      streams = fields number16 2 (stream_count value) (drop 4 value);
    }) else
    Err Length

pub record IsInWidth (r : Tree) : Type 0 where
  pub request : r.request < 2 ^ 32
  pub streams : AllByRecursion (λ id. id < 2 ^ 16) r.streams

-- the number before the stream ids
abbrev pub leading : Tree → List ℕ
leading r = r.request ∷ []

abbrev pub format : Tree → Format
format r = record {
  tlv = sized_tlv 14 (4 + 2 * length r.streams) (numbers w32 (leading r) ++ numbers w16 r.streams);
  sized = length-words w16 2 (leading r) r.streams (λ n. refl);
  text = codes "Incoming SSN Reset Request, req_seq_nbr=" ++ decimal r.request;
  IsInWidth = IsInWidth r;
  IsWellFormed = Unit {0};
}

abbrev pub view : IncomingSsnResetRequestParameter → Tree
view p = record { request = p.request_seq_nbr; streams = stream_numbers p.streams.items }

abbrev pub kind : Kind
kind = plain_kind 14 Varied (λ flags. read) format
