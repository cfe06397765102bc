-- User data, as DATA (RFC 9260 section 3.3.1) and I-DATA (RFC 8260 section 2.1) hold it, and what
-- their chunks have in common: flag bits 0 to 3 say end, beginning, unordered and immediate ack,
-- and the others are ignored; the value begins with the TSN in four bytes and the stream id in two,
-- and ends with the payload.
use Rattle.std.specs.{Prelude.{ℕ, ◌<◌, ◌^◌, Bool, false, List, [], ◌∷◌, ◌++◌, not, if◌then◌else◌, length, codes}, Fmt.{decimal}}
use Rattle.dcsctp_types.specs.{StreamKey.{stream_of, is_ordered_key}, declared.types.tsn.Tsn.{Tsn}}
use Rattle.dcsctp_tlv.specs.Kind.{AreBytes}
use Rattle.dcsctp_chunk.specs.{Flags.{is_set, flag_byte}, declared.data.Data.{Data}}

-- user data as plain data
pub record DataTree : Type 0 where
  pub unordered : Bool
  pub stream : ℕ
  pub ssn : ℕ
  pub mid : ℕ
  pub fsn : ℕ
  pub ppid : ℕ
  pub payload : List ℕ
  pub beginning : Bool
  pub ending : Bool

abbrev pub user_data_view : Data → DataTree
user_data_view d = record {
  unordered = not (is_ordered_key d.stream_key);
  stream = (stream_of d.stream_key).0;
  ssn = d.ssn.0;
  mid = d.mid.0;
  fsn = d.fsn.0;
  ppid = d.ppid.0;
  payload = d.payload.items;
  beginning = d.is_beginning;
  ending = d.is_end;
}

-- of stream 0 and ordered; zeros, and no payload; neither a beginning nor an end
abbrev pub no_data : DataTree
no_data = record {
  unordered = false;
  stream = 0;
  ssn = 0;
  mid = 0;
  fsn = 0;
  ppid = 0;
  payload = [];
  beginning = false;
  ending = false;
}

-- the flags of a DATA or an I-DATA chunk that holds it
abbrev pub user_data_flags : DataTree → Bool → ℕ
user_data_flags d immediate_ack =
    flag_byte (d.ending ∷ d.beginning ∷ d.unordered ∷ immediate_ack ∷ [])

abbrev pub order_text : DataTree → List ℕ
order_text d = if d.unordered then codes "unordered" else codes "ordered"

-- which part of its message it is
abbrev pub part_text : DataTree → List ℕ
part_text d =
    if d.beginning then (if d.ending then codes "complete" else codes "first") else
    if d.ending then codes "last" else
    codes "middle"

-- ---- a chunk of user data

pub record Tree : Type 0 where
  pub tsn : ℕ
  pub user_data : DataTree
  pub immediate_ack : Bool

-- what the flags, the TSN and the stream id say of user data with these other numbers
abbrev pub chunk_of : ℕ → ℕ → ℕ → DataTree → Tree
chunk_of flags tsn stream numbers = record {
  tsn = tsn;
  user_data = record numbers {
    unordered = is_set flags 2;
    stream = stream;
    beginning = is_set flags 1;
    ending = is_set flags 0;
  };
  immediate_ack = is_set flags 3;
}

abbrev pub flags_of : Tree → ℕ
flags_of c = user_data_flags c.user_data c.immediate_ack

-- the kind's name, its word for the stream id, and the number that it prints as the SSN
abbrev pub text : List ℕ → List ℕ → ℕ → Tree → List ℕ
text name stream_word ssn c =
    let d = c.user_data in
    name ++ (order_text d ++ (codes "::" ++ (part_text d ++ (codes ", tsn=" ++ (decimal c.tsn
    ++ (stream_word ++ (decimal d.stream ++ (codes ", ssn=" ++ (decimal ssn
    ++ (codes ", ppid=" ++ (decimal d.ppid
    ++ (codes ", length=" ++ decimal (length d.payload)))))))))))))

abbrev pub tree_of : Tsn → Data → Bool → Tree
tree_of tsn user_data immediate_ack = record {
  tsn = tsn.0;
  user_data = user_data_view user_data;
  immediate_ack = immediate_ack;
}

-- every number lies in its field's width, carried or not
pub record IsInWidth (c : Tree) : Type 0 where
  pub tsn : c.tsn < 2 ^ 32
  pub stream : c.user_data.stream < 2 ^ 16
  pub ssn : c.user_data.ssn < 2 ^ 16
  pub mid : c.user_data.mid < 2 ^ 32
  pub fsn : c.user_data.fsn < 2 ^ 32
  pub ppid : c.user_data.ppid < 2 ^ 32
  pub payload : AreBytes c.user_data.payload
