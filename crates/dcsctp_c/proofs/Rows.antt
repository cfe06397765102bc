-- The row of a chunk, and the rows of a packet, chunk after chunk.
use Rattle.std.{proofs.Common.{◌≡◌, ◌≢◌, ◌∙◌, ◌+◌, ◌<◌, ◌≤◌, ℕ, List, [], Option, Some, None, length, drop, refl, sym, ap, arith, length-drop, get_or-drop}, specs.Option.{option_and_then}, proofs.lemmas.List.{drop_all}}
use Rattle.dcsctp_tlv.specs.{Frame.{lenient, BeginsWithFrame}, Level.{MeansTrees, MeansSome}, Number.{AreBytes}}
use Rattle.dcsctp_chunk.specs.Sack as sack_kind
use Rattle.dcsctp_chunk.specs.SkippedStreams as skipped_streams
use Rattle.dcsctp_wire.specs.Chunk.{ChunkTree, chunks}
use Rattle.dcsctp_borrowed.{specs.Sack.{read_sack}, specs.SkippedStreams.{read_forward}, specs.UserData.{read_user_data}, proofs.Fronts.{front, none_left}}
use Rattle.dcsctp_c.specs.{Part.{Reads, value_at, IsChunkAt, data_at, HoldsData, HoldsSack, read_init, HoldsInit, read_shutdown, HoldsForward}, Row.{row_after, data_row, sack_row, init_row, forward_row, shutdown_row, IsRow, user_data, sack, init, forward_tsn, shutdown, other}, declared.structs.DcsctpChunk.{DcsctpChunk}, declared.structs.DcsctpData.{DcsctpData}, declared.structs.DcsctpForwardTsn.{DcsctpForwardTsn}, declared.structs.DcsctpInit.{DcsctpInit}, declared.structs.DcsctpSack.{DcsctpSack}}

-- ---- one row

something : {T S : Type 0} (Holds : T → S → Type 0) (o : Option T) (s : S)
    → Reads Holds o (Some s) → (t : T) × (o ≡ Some t) × Holds t s
something Holds (Some t) s h = (t, refl, h)
something Holds None s h = absurd h

pub nothing : {T S : Type 0} (Holds : T → S → Type 0) (o : Option T) → Reads Holds o None → o ≡ None
nothing Holds (Some t) h = absurd h
nothing Holds None h = refl

-- of a chunk with this value
module _ (bytes : List ℕ) (c : DcsctpChunk) (value : List ℕ)
    (there : value_at bytes c ≡ Some value) where
  pub of_data : (d : DcsctpData) → Reads (HoldsData bytes c) (data_at bytes c) (Some d)
      → IsRow bytes c (data_row c d)
  of_data d h =
      let found = something (HoldsData bytes c) (data_at bytes c) d h in
      user_data found.0 d found.1 found.2 refl

  pub of_sack : (tree : sack_kind.Tree) (s : DcsctpSack) → Some tree ≡ read_sack c.typ value
      → HoldsSack tree s → IsRow bytes c (sack_row c s)
  of_sack tree s read h =
      sack tree s (ap (option_and_then (read_sack c.typ)) there ∙ sym read) h refl

  pub of_init : (i : DcsctpInit) → Reads HoldsInit (read_init c.typ value) (Some i)
      → IsRow bytes c (init_row c i)
  of_init i h =
      let found = something HoldsInit (read_init c.typ value) i h in
      init found.0 i (ap (option_and_then (read_init c.typ)) there ∙ found.1) found.2 refl

  pub of_forward : (tree : skipped_streams.Tree) (f : DcsctpForwardTsn)
      → Some tree ≡ read_forward c.typ value → HoldsForward tree f
      → IsRow bytes c (forward_row c f)
  of_forward tree f read h =
      forward_tsn tree f (ap (option_and_then (read_forward c.typ)) there ∙ sym read) h refl

  pub of_shutdown : (tsn : ℕ) → Some tsn ≡ read_shutdown c.typ value
      → IsRow bytes c (shutdown_row c tsn)
  of_shutdown tsn read =
      shutdown tsn (ap (option_and_then (read_shutdown c.typ)) there ∙ sym read) refl

  pub of_other : Reads (HoldsData bytes c) (data_at bytes c) None → None ≡ read_sack c.typ value
      → Reads HoldsInit (read_init c.typ value) None → None ≡ read_forward c.typ value
      → None ≡ read_shutdown c.typ value → IsRow bytes c (row_after 0 c)
  of_other no_data no_sack no_init no_forward no_shutdown =
      other (nothing (HoldsData bytes c) (data_at bytes c) no_data)
      (ap (option_and_then (read_sack c.typ)) there ∙ sym no_sack)
      (ap (option_and_then (read_init c.typ)) there
      ∙ nothing HoldsInit (read_init c.typ value) no_init)
      (ap (option_and_then (read_forward c.typ)) there ∙ sym no_forward)
      (ap (option_and_then (read_shutdown c.typ)) there ∙ sym no_shutdown) refl

  -- where its type has no numbers
  pub of_plain : read_user_data c.typ c.flags value ≡ None → read_sack c.typ value ≡ None
      → read_init c.typ value ≡ None → read_forward c.typ value ≡ None
      → read_shutdown c.typ value ≡ None → IsRow bytes c (row_after 0 c)
  of_plain no_data no_sack no_init no_forward no_shutdown =
      other (ap (option_and_then (read_user_data c.typ c.flags)) there ∙ no_data)
      (ap (option_and_then (read_sack c.typ)) there ∙ no_sack)
      (ap (option_and_then (read_init c.typ)) there ∙ no_init)
      (ap (option_and_then (read_forward c.typ)) there ∙ no_forward)
      (ap (option_and_then (read_shutdown c.typ)) there ∙ no_shutdown) refl

-- ---- the rows of a packet

-- the bytes after a chunk mean chunks too
pub left_meant : (bytes : List ℕ) (offset : ℕ) (c : DcsctpChunk) → IsChunkAt bytes offset c
    → MeansSome (chunks lenient) (drop offset bytes) → MeansSome (chunks lenient) (drop c.next bytes)
left_meant bytes offset c chunk meant =
    let first = chunk.means meant.0 meant.1 in (first.1, first.4)

-- where the bytes end no tree is left
pub none_after : (bytes : List ℕ) (offset : ℕ) (left : List ChunkTree) → length bytes ≤ offset
    → MeansTrees (chunks lenient) (drop offset bytes) left → left ≡ []
none_after bytes offset left end mean =
    none_left (chunks lenient) (drop offset bytes) (drop_all offset bytes end) left mean

-- where they don't, a chunk begins
pub frame_at : (bytes : List ℕ) (offset : ℕ) → AreBytes bytes → offset < length bytes
    → MeansSome (chunks lenient) (drop offset bytes) → BeginsWithFrame (drop offset bytes)
frame_at bytes offset fits lt meant =
    (front (chunks lenient) (drop offset bytes) (meant, from) some).frame
  where
    from : AreBytes (drop offset bytes)
    from i = rw get_or-drop (fits (offset + i))

    some : drop offset bytes ≢ []
    some none = omega (arith, lt, ap length none, length-drop offset bytes)
