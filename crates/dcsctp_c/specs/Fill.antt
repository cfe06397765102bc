-- A list of a chunk, a parameter or an error cause, as one call writes all of it to an array.
use Rattle.std.specs.Prelude.{◌≡◌, ◌+◌, ℕ, List, [], Option, Some, None, length, take, drop}
use Rattle.dcsctp_chunk.specs.{declared.sack_chunk.GapAckBlock.{GapAckBlock}}
use Rattle.dcsctp_chunk.specs.Sack as sack_kind
use Rattle.dcsctp_chunk.specs.SkippedStreams as skipped_streams
use Rattle.dcsctp_tlv.specs.Frame.{BeginsWithFrame}
use Rattle.dcsctp_c.specs.{Part.{Holds, value_at, value_from, list_bytes}, Parameter.{IsListedAt}, Walk.{AreFrom, end_of, MeanEach}}
use Rattle.dcsctp_c.specs.declared.structs.{DcsctpChunk.{DcsctpChunk}, DcsctpParameter.{DcsctpParameter}}

-- A struct for each item is written to the front of an array, as many as have room; `count` is how
-- many items there are. What lies after those structs stays.
pub record Fills {T S : Type 0} (Holds : T → S → Type 0) (items : List T) (old new : List S)
    (count : ℕ) : Type 0 where
  pub number : count ≡ length items
  pub each : MeanEach (λ s t. Holds t s) (take count new) items
  pub after : drop count new ≡ drop count old

-- ---- what a call writes; nothing where the chunk or the parameter has no such list

abbrev pub blocks_in : Option sack_kind.Tree → List GapAckBlock
blocks_in (Some s) = s.blocks
blocks_in None = []

abbrev pub duplicates_in : Option sack_kind.Tree → List ℕ
duplicates_in (Some s) = s.duplicates
duplicates_in None = []

abbrev pub skipped_in : Option skipped_streams.Tree → List skipped_streams.SkippedStreamTree
skipped_in (Some f) = f.streams
skipped_in None = []

abbrev pub numbers_in : Option (List ℕ) → List ℕ
numbers_in (Some ns) = ns
numbers_in None = []

-- ---- parameters or error causes

-- all of a list in the bytes: one after the other from an offset on, to where none begins
pub record AreListed (bytes : List ℕ) (from : ℕ → List ℕ) (end start : ℕ)
    (all : List DcsctpParameter) : Type 0 where
  pub are : AreFrom (IsListedAt bytes from end) (λ p. p.next) start all
  pub ends : BeginsWithFrame (from (end_of (λ p. p.next) start all)) → ⊥

-- of a list that is all of the bytes
abbrev pub AreListedIn : List ℕ → ℕ → List DcsctpParameter → Type 0
AreListedIn bytes start all = AreListed bytes (λ n. drop n bytes) (length bytes) start all

-- All are written, from an offset on.
pub record WritesItems (bytes : List ℕ) (start : ℕ) (old new : List DcsctpParameter)
    (count : ℕ) : Type 0 where
  pub all : List DcsctpParameter
  pub are : AreListedIn bytes start all
  pub fills : Fills Holds all old new count

-- of a chunk's value
abbrev pub AreParameters : List ℕ → DcsctpChunk → ℕ → List DcsctpParameter → Type 0
AreParameters bytes c start all =
    AreListed bytes (value_from bytes c) (c.value_offset + c.value_size) start all

-- All are written, from the chunk's first on. A value that has no place for them has none.
pub record WritesParameters (bytes : List ℕ) (c : DcsctpChunk) (old new : List DcsctpParameter)
    (count : ℕ) : Type 0 where
  pub all : List DcsctpParameter
  pub start : ℕ
  pub list : (value : List ℕ) → value_at bytes c ≡ Some value
      → value_from bytes c start ≡ list_bytes c.typ value
  pub are : AreParameters bytes c start all
  pub fills : Fills Holds all old new count
