-- I-DATA (RFC 8260 section 2.1): type 64. The value is the TSN in four bytes, the stream id in two,
-- two bytes that are ignored, the MID in four, and in four more the payload protocol id of a
-- beginning, or else the FSN; then the payload. The SSN isn't carried, and of payload protocol id
-- and FSN one alone.
use Rattle.std.specs.{Prelude.{◌≡◌, ℕ, ◌+◌, List, ◌++◌, nat_lt, Result, Ok, Err, if◌then◌else◌, length, drop, codes, refl}, Int.{w16, w32, to_be_bytes}}
use Rattle.dcsctp_tlv.{specs.Kind.{Fault, Length, number16, number32, Format, flagged_tlv, Kind, kept_kind, Varied}, proofs.Lengths.{length-fixed}}
use Rattle.dcsctp_chunk.specs.{Data.{DataTree, Tree, no_data, chunk_of, flags_of, text, tree_of, IsInWidth}, Flags.{is_set}, declared.idata_chunk.{IDataChunk.{IDataChunk}, IDataNumbers.{IDataNumbers}}}

abbrev pub read : ℕ → List ℕ → Result Tree Fault
read flags value =
    if nat_lt (length value) 16 then Err Length else
    Ok (chunk_of flags (number32 value) (number16 (drop 4 value)) (record no_data {
      mid = number32 (drop 8 value);
      fsn = if is_set flags 1 then 0 else number32 (drop 12 value);
      ppid = if is_set flags 1 then number32 (drop 12 value) else 0;
      payload = drop 16 value;
    }))

-- the number before the payload
abbrev pub ppid_or_fsn : DataTree → ℕ
ppid_or_fsn d = if d.beginning then d.ppid else d.fsn

-- the value as it is written: what is before the payload, and the payload
abbrev pub leading : ℕ → ℕ → ℕ → ℕ → List ℕ
leading tsn stream mid ppid_or_fsn =
    to_be_bytes w32 tsn ++ (to_be_bytes w16 stream ++ (to_be_bytes w16 0
    ++ (to_be_bytes w32 mid ++ to_be_bytes w32 ppid_or_fsn)))

abbrev pub fixed : Tree → List ℕ
fixed c = leading c.tsn c.user_data.stream c.user_data.mid (ppid_or_fsn c.user_data)

abbrev pub bytes : Tree → List ℕ
bytes c = fixed c ++ c.user_data.payload

-- what isn't carried is zero
pub record IsWellFormed (c : Tree) : Type 0 where
  pub ssn : c.user_data.ssn ≡ 0
  pub fsn_or_ppid : (if c.user_data.beginning then c.user_data.fsn else c.user_data.ppid) ≡ 0

-- the text has the stream id under "mid", and the MID under "ssn"
abbrev pub format : Tree → Format
format c = record {
  tlv = flagged_tlv 64 (flags_of c) (16 + length c.user_data.payload) (bytes c);
  sized = length-fixed 16 (fixed c) c.user_data.payload refl;
  text = text (codes "I-DATA, type=") (codes ", mid=") c.user_data.mid c;
  IsInWidth = IsInWidth c;
  IsWellFormed = IsWellFormed c;
}

-- the numbers of the code before the payload, as they are read and written
abbrev pub numbers_at : List ℕ → IDataNumbers
numbers_at value = record {
  tsn = record { 0 = number32 value };
  stream_id = record { 0 = number16 (drop 4 value) };
  mid = record { 0 = number32 (drop 8 value) };
  ppid_or_fsn = number32 (drop 12 value);
}

abbrev pub number_bytes : IDataNumbers → List ℕ
number_bytes n = leading n.tsn.0 n.stream_id.0 n.mid.0 n.ppid_or_fsn

abbrev pub view : IDataChunk → Tree
view c = tree_of c.tsn c.user_data c.immediate_ack

-- a tree with what isn't carried set to zero
abbrev pub kept : Tree → Tree
kept c = record c {
  user_data = record c.user_data {
    ssn = 0;
    fsn = if c.user_data.beginning then 0 else c.user_data.fsn;
    ppid = if c.user_data.beginning then c.user_data.ppid else 0;
  };
}

abbrev pub kind : Kind
kind = kept_kind 64 Varied read format kept
