-- What both requests for more streams hold (RFC 6525 sections 4.5 and 4.6): the value is the
-- request number, four bytes; how many streams are to be added, two bytes; and two reserved bytes,
-- which are ignored, and written as zeros.
use Rattle.std.specs.{Prelude.{ℕ, ◌<◌, ◌^◌, List, [], ◌∷◌, ◌++◌, ◌==◌, Result, Ok, Err, if◌then◌else◌, length, drop, codes, refl}, Fmt.{decimal}, Int.{w16, w32, to_be_bytes}}
use Rattle.dcsctp_tlv.specs.{Kind.{Fault, Length, number16, number32, Format, sized_tlv}, declared.parameter.add_streams_request.AddStreamsNumbers.{AddStreamsNumbers}}

pub record Tree : Type 0 where
  pub request : ℕ
  pub new_streams : ℕ

abbrev pub read : List ℕ → Result Tree Fault
read value =
    if length value == 8
    then Ok (record { request = number32 value; new_streams = number16 (drop 4 value) }) else
    Err Length

-- the value that is written
abbrev pub value_of : Tree → List ℕ
value_of r = to_be_bytes w32 r.request ++ (to_be_bytes w16 r.new_streams ++ 0 ∷ 0 ∷ [])

-- the numbers of the code, as they are read and written
abbrev pub numbers_at : List ℕ → AddStreamsNumbers
numbers_at value = record {
  request_seq_nbr = number32 value;
  nbr_new_streams = number16 (drop 4 value);
}

abbrev pub number_bytes : AddStreamsNumbers → List ℕ
number_bytes n = value_of (record { request = n.request_seq_nbr; new_streams = n.nbr_new_streams })

pub record IsInWidth (r : Tree) : Type 0 where
  pub request : r.request < 2 ^ 32
  pub new_streams : r.new_streams < 2 ^ 16

-- of the request of a type, and of a name in print
abbrev pub format : ℕ → List ℕ → Tree → Format
format typ name r = record {
  tlv = sized_tlv typ 8 (value_of r);
  sized = refl;
  text =
      name ++ (codes ", req_seq_nbr=" ++ (decimal r.request
      ++ (codes ", new_streams=" ++ decimal r.new_streams)));
  IsInWidth = IsInWidth r;
  IsWellFormed = Unit {0};
}
