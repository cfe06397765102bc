-- SACK (RFC 9260 section 3.3.4): type 3, flags ignored; the value is the cumulative TSN and the
-- window, four bytes each, the numbers of gap ack blocks and of duplicate TSNs, two bytes each, and
-- then just as many blocks and TSNs, four bytes each.
use Rattle.std.{proofs.Common.{ℕ, ◌+◌, ◌*◌, ◌<◌, ◌^◌, List, [], ◌∷◌, ◌++◌, ◌==◌, Result, Ok, Err, if◌then◌else◌, length, drop, map, codes, refl, ap, ◌∙◌}, specs.Fmt.{decimal}, specs.Int.{w16, w32, to_be_bytes}, specs.List.{flat_map, AllByRecursion}}
use Rattle.dcsctp_types.specs.declared.types.tsn.Tsn.{Tsn}
use Rattle.dcsctp_tlv.{specs.Kind.{Fault, Length, fields, number16, number32, numbers, Format, flagged_tlv, length-two_lists, Kind, plain_kind, Varied}, proofs.Lengths.{length-fixed}}
use Rattle.dcsctp_chunk.specs.declared.sack_chunk.{GapAckBlock.{GapAckBlock}, SackChunk.{SackChunk}, SackNumbers.{SackNumbers}}

pub record Tree : Type 0 where
  pub tsn : ℕ
  pub a_rwnd : ℕ
  pub blocks : List GapAckBlock
  pub duplicates : List ℕ

-- a block: its start, and then its end
abbrev pub block_at : List ℕ → GapAckBlock
block_at bytes = record { start = number16 bytes; end = number16 (drop 2 bytes) }

abbrev pub block_bytes : GapAckBlock → List ℕ
block_bytes b = numbers w16 (b.start ∷ b.end ∷ [])

abbrev pub read : List ℕ → Result Tree Fault
read value =
    let blocks = number16 (drop 8 value) in
    let duplicates = number16 (drop 10 value) in
    if length value == 12 + 4 * blocks + 4 * duplicates then Ok (record {
      tsn = number32 value;
      a_rwnd = number32 (drop 4 value);
      blocks = fields block_at 4 blocks (drop 12 value);
      duplicates = fields number32 4 duplicates (drop (12 + 4 * blocks) value);
    }) else
    Err Length

-- the value as it is written: what is before the lists, and the lists
abbrev pub leading : ℕ → ℕ → ℕ → ℕ → List ℕ
leading tsn a_rwnd blocks duplicates =
    numbers w32 (tsn ∷ a_rwnd ∷ []) ++ numbers w16 (blocks ∷ duplicates ∷ [])

abbrev pub fixed : Tree → List ℕ
fixed s = leading s.tsn s.a_rwnd (length s.blocks) (length s.duplicates)

abbrev pub lists : Tree → List ℕ
lists s = flat_map block_bytes s.blocks ++ numbers w32 s.duplicates

abbrev pub bytes : Tree → List ℕ
bytes s = fixed s ++ lists s

pub record IsBlockInWidth (b : GapAckBlock) : Type 0 where
  pub start : b.start < 2 ^ 16
  pub end : b.end < 2 ^ 16

-- every number lies in its field's width
pub record IsInWidth (s : Tree) : Type 0 where
  pub tsn : s.tsn < 2 ^ 32
  pub a_rwnd : s.a_rwnd < 2 ^ 32
  pub blocks : AllByRecursion IsBlockInWidth s.blocks
  pub duplicates : AllByRecursion (λ tsn. tsn < 2 ^ 32) s.duplicates

abbrev pub format : Tree → Format
format s = record {
  tlv = flagged_tlv 3 0 (12 + (4 * length s.blocks + 4 * length s.duplicates)) (bytes s);
  sized =
      length-fixed 12 (fixed s) (lists s) refl
      ∙ ap (λ (k : ℕ). 12 + k)
      (length-two_lists block_bytes 4 s.blocks (to_be_bytes w32) 4 s.duplicates
      (λ b. refl) (λ n. refl));
  text = codes "SACK, cum_ack_tsn=" ++ decimal s.tsn ++ codes ", a_rwnd=" ++ decimal s.a_rwnd;
  IsInWidth = IsInWidth s;
  IsWellFormed = Unit {0};
}

-- the numbers of the code before the lists, as they are read and written
abbrev pub numbers_at : List ℕ → SackNumbers
numbers_at value = record {
  cumulative_tsn_ack = record { 0 = number32 value };
  a_rwnd = number32 (drop 4 value);
  gap_ack_block_count = number16 (drop 8 value);
  duplicate_tsn_count = number16 (drop 10 value);
}

abbrev pub number_bytes : SackNumbers → List ℕ
number_bytes n =
    leading n.cumulative_tsn_ack.0 n.a_rwnd n.gap_ack_block_count n.duplicate_tsn_count

-- the size of a value with as many blocks and duplicates as they say
abbrev pub size_of_value : SackNumbers → ℕ
size_of_value n = 12 + 4 * n.gap_ack_block_count + 4 * n.duplicate_tsn_count

abbrev pub duplicate_numbers : List Tsn → List ℕ
duplicate_numbers tsns = map (λ tsn. tsn.0) tsns

abbrev pub view : SackChunk → Tree
view c = record {
  tsn = c.cumulative_tsn_ack.0;
  a_rwnd = c.a_rwnd;
  blocks = c.gap_ack_blocks.items;
  duplicates = duplicate_numbers c.duplicate_tsns.items;
}

abbrev pub kind : Kind
kind = plain_kind 3 Varied (λ flags. read) format
