-- DATA (RFC 9260 section 3.3.1): type 0. The value is the TSN in four bytes, the stream id and the
-- SSN in two each, the payload protocol id in four, and the payload. MID and FSN aren't carried.
use Rattle.std.specs.{Prelude.{◌≡◌, ℕ, ◌+◌, List, ◌++◌, nat_lt, Result, Ok, Err, if◌then◌else◌, length, drop, codes, refl}, Int.{w16, w32, to_be_bytes}}
use Rattle.dcsctp_tlv.{specs.Kind.{Fault, Length, number16, number32, Format, flagged_tlv, Kind, kept_kind, Varied}, proofs.Lengths.{length-fixed}}
use Rattle.dcsctp_chunk.specs.{Data.{Tree, no_data, chunk_of, flags_of, text, tree_of, IsInWidth}, declared.data_chunk.{DataChunk.{DataChunk}, DataNumbers.{DataNumbers}}}

abbrev pub read : ℕ → List ℕ → Result Tree Fault
read flags value =
    if nat_lt (length value) 12 then Err Length else
    Ok (chunk_of flags (number32 value) (number16 (drop 4 value)) (record no_data {
      ssn = number16 (drop 6 value);
      ppid = number32 (drop 8 value);
      payload = drop 12 value;
    }))

-- the value as it is written: what is before the payload, and the payload
abbrev pub leading : ℕ → ℕ → ℕ → ℕ → List ℕ
leading tsn stream ssn ppid =
    to_be_bytes w32 tsn ++ (to_be_bytes w16 stream ++ (to_be_bytes w16 ssn ++ to_be_bytes w32 ppid))

abbrev pub fixed : Tree → List ℕ
fixed c = leading c.tsn c.user_data.stream c.user_data.ssn c.user_data.ppid

abbrev pub bytes : Tree → List ℕ
bytes c = fixed c ++ c.user_data.payload

-- what isn't carried is zero
pub record IsWellFormed (c : Tree) : Type 0 where
  pub mid : c.user_data.mid ≡ 0
  pub fsn : c.user_data.fsn ≡ 0

abbrev pub format : Tree → Format
format c = record {
  tlv = flagged_tlv 0 (flags_of c) (12 + length c.user_data.payload) (bytes c);
  sized = length-fixed 12 (fixed c) c.user_data.payload refl;
  text = text (codes "DATA, type=") (codes ", sid=") c.user_data.ssn c;
  IsInWidth = IsInWidth c;
  IsWellFormed = IsWellFormed c;
}

-- the numbers of the code before the payload, as they are read and written
abbrev pub numbers_at : List ℕ → DataNumbers
numbers_at value = record {
  tsn = record { 0 = number32 value };
  stream_id = record { 0 = number16 (drop 4 value) };
  ssn = record { 0 = number16 (drop 6 value) };
  ppid = record { 0 = number32 (drop 8 value) };
}

abbrev pub number_bytes : DataNumbers → List ℕ
number_bytes n = leading n.tsn.0 n.stream_id.0 n.ssn.0 n.ppid.0

abbrev pub view : DataChunk → Tree
view c = tree_of c.tsn c.user_data c.immediate_ack

-- a tree with what isn't carried set to zero
abbrev pub kept : Tree → Tree
kept c = record c { user_data = record c.user_data { mid = 0; fsn = 0 } }

abbrev pub kind : Kind
kind = kept_kind 0 Varied read format kept
