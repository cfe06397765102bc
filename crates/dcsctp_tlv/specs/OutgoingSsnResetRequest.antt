-- Outgoing SSN Reset Request (RFC 6525 section 4.1): type 13; the value is the request number, the
-- response number and the sender's last assigned TSN, four bytes each, and then stream ids, two
-- bytes each.
use Rattle.std.specs.{Prelude.{ℕ, ◌+◌, ◌-◌, ◌*◌, ◌/◌, ◌<◌, ◌^◌, List, [], ◌∷◌, ◌++◌, ◌==◌, Result, Ok, Err, if◌then◌else◌, length, drop, codes, refl}, Fmt.{decimal}, List.{AllByRecursion}, Int.{w16, w32}}
use Rattle.dcsctp_tlv.specs.{Kind.{Fault, Length, fields, stream_numbers, number16, number32, numbers, Format, sized_tlv, length-words, Kind, plain_kind, Varied}, declared.parameter.outgoing_ssn_reset_request_parameter.{OutgoingSsnResetRequestParameter.{OutgoingSsnResetRequestParameter}, OutgoingSsnResetRequestNumbers.{OutgoingSsnResetRequestNumbers}}}

pub record Tree : Type 0 where
  pub request : ℕ
  pub response : ℕ
  pub last_tsn : ℕ
  pub streams : List ℕ

-- how many stream ids follow the numbers
abbrev pub stream_count : List ℕ → ℕ
stream_count value = (length value - 12) / 2

-- the value has at least 12 bytes, and after them an even number
abbrev pub read : List ℕ → Result Tree Fault
read value =
    if length value == 12 + 2 * stream_count value then Ok (record {
      request = number32 value;
      response = number32 (drop 4 value);
      last_tsn = number32 (drop 8 value);
      streams = fields number16 2 (stream_count value) (drop 12 value);
    }) else
    Err Length

-- the numbers before the stream ids
abbrev pub leading : Tree → List ℕ
leading r = r.request ∷ r.response ∷ r.last_tsn ∷ []

pub record IsInWidth (r : Tree) : Type 0 where
  pub request : r.request < 2 ^ 32
  pub response : r.response < 2 ^ 32
  pub last_tsn : r.last_tsn < 2 ^ 32
  pub streams : AllByRecursion (λ id. id < 2 ^ 16) r.streams

-- the text begins as that of the incoming request
abbrev pub text : Tree → List ℕ
text r =
    codes "Incoming SSN Reset Request, req_seq_nbr=" ++ (decimal r.request
    ++ (codes ", resp_seq_nbr=" ++ (decimal r.response
    ++ (codes ", slatsn=" ++ decimal r.last_tsn))))

abbrev pub format : Tree → Format
format r = record {
  tlv = sized_tlv 13 (12 + 2 * length r.streams) (numbers w32 (leading r) ++ numbers w16 r.streams);
  sized = length-words w16 2 (leading r) r.streams (λ n. refl);
  text = text r;
  IsInWidth = IsInWidth r;
  IsWellFormed = Unit {0};
}

-- the numbers of the code before the stream ids, as they are read
abbrev pub numbers_at : List ℕ → OutgoingSsnResetRequestNumbers
numbers_at value = record {
  request_seq_nbr = number32 value;
  response_seq_nbr = number32 (drop 4 value);
  sender_last_assigned_tsn = record { 0 = number32 (drop 8 value) };
}

abbrev pub view : OutgoingSsnResetRequestParameter → Tree
view p = record {
  request = p.request_seq_nbr;
  response = p.response_seq_nbr;
  last_tsn = p.sender_last_assigned_tsn.0;
  streams = stream_numbers p.streams.items;
}

abbrev pub kind : Kind
kind = plain_kind 13 Varied (λ flags. read) format
