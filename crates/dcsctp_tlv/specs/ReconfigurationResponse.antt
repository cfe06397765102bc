-- Re-configuration Response (RFC 6525 section 4.4): type 16; the value is the response number and
-- the result, four bytes each, and then both next TSNs, four bytes each, or neither.
use Rattle.std.specs.{Prelude.{ℕ, ◌+◌, ◌*◌, ◌<◌, ◌^◌, ◌↔◌, List, [], ◌∷◌, ◌++◌, ◌==◌, Option, Some, None, IsSome, IfSome, option_map, Result, Ok, Err, if◌then◌else◌, length, drop, codes, refl}, Fmt.{decimal}, Int.{w32}}
use Rattle.dcsctp_types.specs.declared.types.tsn.Tsn.{Tsn}
use Rattle.dcsctp_tlv.specs.{Level.{map_ok}, Kind.{Fault, Length, Value, number32, numbers, Format, sized_tlv, length-words, Kind, kept_kind, Fixed}, declared.parameter.reconfiguration_response_parameter.ReconfigurationResponseResult.{ReconfigurationResponseResult}, declared.parameter.reconfiguration_response_parameter.ReconfigurationResponseResult.TheVariants.{SuccessNothingToDo, SuccessPerformed, Denied, ErrorWrongSSN, ErrorRequestAlreadyInProgress, ErrorBadSequenceNumber, InProgress}, declared.parameter.reconfiguration_response_parameter.ReconfigurationResponseParameter.{ReconfigurationResponseParameter}, declared.parameter.reconfiguration_response_parameter.ReconfigurationResponseNumbers.{ReconfigurationResponseNumbers}}

pub record Tree : Type 0 where
  pub response : ℕ
  pub result : ReconfigurationResponseResult
  pub sender_next_tsn : Option ℕ
  pub receiver_next_tsn : Option ℕ

-- the results by their numbers; a number above 6 has no meaning
abbrev pub result_of : ℕ → Result ReconfigurationResponseResult Fault
result_of n =
    if n == 0 then Ok SuccessNothingToDo else
    if n == 1 then Ok SuccessPerformed else
    if n == 2 then Ok Denied else
    if n == 3 then Ok ErrorWrongSSN else
    if n == 4 then Ok ErrorRequestAlreadyInProgress else
    if n == 5 then Ok ErrorBadSequenceNumber else
    if n == 6 then Ok InProgress else
    Err Value

abbrev pub result_number : ReconfigurationResponseResult → ℕ
result_number SuccessNothingToDo = 0
result_number SuccessPerformed = 1
result_number Denied = 2
result_number ErrorWrongSSN = 3
result_number ErrorRequestAlreadyInProgress = 4
result_number ErrorBadSequenceNumber = 5
result_number InProgress = 6

-- a value with these next TSNs
abbrev pub response_with : List ℕ → Option ℕ → Option ℕ → Result Tree Fault
response_with value sender receiver =
    map_ok (λ result. record {
      response = number32 value;
      result = result;
      sender_next_tsn = sender;
      receiver_next_tsn = receiver;
    }) (result_of (number32 (drop 4 value)))

-- the length comes before the result
abbrev pub read : List ℕ → Result Tree Fault
read value =
    if length value == 8 then response_with value None None else
    if length value == 16 then
    response_with value (Some (number32 (drop 8 value))) (Some (number32 (drop 12 value))) else
    Err Length

-- both next TSNs where both are there, and neither otherwise
abbrev pub next_tsns : Option ℕ → Option ℕ → List ℕ
next_tsns (Some sender) (Some receiver) = sender ∷ receiver ∷ []
next_tsns (Some sender) None = []
next_tsns None receiver = []

-- the numbers before the next TSNs, and these
abbrev pub leading : Tree → List ℕ
leading r = r.response ∷ result_number r.result ∷ []

abbrev pub tsns : Tree → List ℕ
tsns r = next_tsns r.sender_next_tsn r.receiver_next_tsn

pub record IsInWidth (r : Tree) : Type 0 where
  pub response : r.response < 2 ^ 32
  pub sender_next_tsn : IfSome r.sender_next_tsn (λ tsn. tsn < 2 ^ 32)
  pub receiver_next_tsn : IfSome r.receiver_next_tsn (λ tsn. tsn < 2 ^ 32)

-- it is well-formed where both next TSNs are there, or neither
abbrev pub format : Tree → Format
format r = record {
  tlv = sized_tlv 16 (8 + 4 * length (tsns r)) (numbers w32 (leading r) ++ numbers w32 (tsns r));
  sized = length-words w32 4 (leading r) (tsns r) (λ n. refl);
  text = codes "Reconfig Response, seq=" ++ decimal r.response;
  IsInWidth = IsInWidth r;
  IsWellFormed = IsSome r.sender_next_tsn ↔ IsSome r.receiver_next_tsn;
}

-- a next TSN, where the other is there too
abbrev pub kept_tsn : Option ℕ → Option ℕ → Option ℕ
kept_tsn tsn (Some other) = tsn
kept_tsn tsn None = None

-- the response that is written for a response: one next TSN alone is left out
abbrev pub kept : Tree → Tree
kept r = record r {
  sender_next_tsn = kept_tsn r.sender_next_tsn r.receiver_next_tsn;
  receiver_next_tsn = kept_tsn r.receiver_next_tsn r.sender_next_tsn;
}

-- the numbers of the code before the next TSNs, as they are read
abbrev pub numbers_at : List ℕ → ReconfigurationResponseNumbers
numbers_at value = record {
  response_seq_nbr = number32 value;
  result = number32 (drop 4 value);
}

abbrev pub tsn_number : Option Tsn → Option ℕ
tsn_number tsn = option_map (λ t. t.0) tsn

abbrev pub view : ReconfigurationResponseParameter → Tree
view p = record {
  response = p.response_seq_nbr;
  result = p.result;
  sender_next_tsn = tsn_number p.sender_next_tsn;
  receiver_next_tsn = tsn_number p.receiver_next_tsn;
}

abbrev pub kind : Kind
kind = kept_kind 16 Fixed (λ flags. read) format kept
