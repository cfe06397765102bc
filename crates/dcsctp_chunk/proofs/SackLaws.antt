-- SACK: what is written is read again, and what was read keeps its size.
use Rattle.std.{proofs.Common.{◌≡◌, ℕ, List, ◌+◌, ◌*◌, length, drop, refl, sym, ap, ◌∙◌, arith, Ok, ◌==◌, eq-eqb, eqb-true, drop_at, drop-drop}, specs.Int.{w32}, specs.List.{flat_map}, proofs.lemmas.Nat.{from_be_bytes-to_be_bytes_2, from_be_bytes-to_be_bytes_4}}
use Rattle.dcsctp_tlv.{specs.Fault.{Length}, specs.Fields.{fields}, specs.Image.{IsEncodable}, specs.Length.{length-each}, specs.Number.{number32, numbers}, proofs.FieldLaws.{FieldLaw, length-fields, fields_back, numbers32_back}, proofs.FormatLaws.{FormatLaws, format_laws}, proofs.KindLaws.{of_ok, passed}, proofs.Unpadded.{if_passed}}
use Rattle.dcsctp_chunk.specs.Sack as sack
use Rattle.dcsctp_chunk.{specs.Sack.{Tree, block_at, block_bytes, numbers_at, IsBlockInWidth, IsInWidth}, proofs.Sacks.{length-lists}}

block_law : FieldLaw block_at block_bytes 4 IsBlockInWidth
block_law = record {
  sized = λ b width. refl;
  back = λ b rest width.
      rw (
        from_be_bytes-to_be_bytes_2 b.start width.start,
        from_be_bytes-to_be_bytes_2 b.end width.end,
      ) refl;
}

back : (s : Tree) → IsInWidth s → IsEncodable (sack.format s).tlv → sack.read (sack.bytes s) ≡ Ok s
back s width fits =
    let value = sack.bytes s in
    let n = length s.blocks in
    let m = length s.duplicates in
    let duplicates = numbers w32 s.duplicates in
    let sized : length value ≡ 12 + 4 * n + 4 * m =
    (let lists = length-lists s in omega (arith, lists)) in
    let count : (numbers_at value).gap_ack_block_count ≡ n = from_be_bytes-to_be_bytes_2 n (omega (arith, fits)) in
    let more : (numbers_at value).duplicate_tsn_count ≡ m = from_be_bytes-to_be_bytes_2 m (omega (arith, fits)) in
    let blocks_are : fields block_at 4 n (drop 12 value) ≡ s.blocks =
    fields_back block_at block_bytes 4 IsBlockInWidth block_law s.blocks duplicates width.blocks in
    let after : drop (12 + 4 * n) value ≡ duplicates =
    sym (drop-drop (4 * n) 12 value)
    ∙ drop_at (flat_map block_bytes s.blocks) duplicates (4 * n)
    (length-each block_bytes 4 s.blocks (λ b. refl)) in
    let duplicates_are : fields number32 4 m (drop (12 + 4 * n) value) ≡ s.duplicates =
    ap (fields number32 4 m) after ∙ numbers32_back s.duplicates m refl width.duplicates in
    rw (
      count,
      more,
      eq-eqb (length value) (12 + 4 * n + 4 * m) sized,
      from_be_bytes-to_be_bytes_4 s.tsn width.tsn,
      from_be_bytes-to_be_bytes_4 s.a_rwnd width.a_rwnd,
      blocks_are,
      duplicates_are,
    ) refl

as_long : (value : List ℕ) (s : Tree) → sack.read value ≡ Ok s
    → length (sack.bytes s) ≡ length value
as_long value s is =
    let n = (numbers_at value).gap_ack_block_count in
    let m = (numbers_at value).duplicate_tsn_count in
    let whole = passed (length value == 12 + 4 * n + 4 * m) _ Length s is in
    let e = of_ok _ s whole.1 in
    let blocks : length s.blocks ≡ n =
    ap (λ (t : Tree). length t.blocks) (sym e) ∙ length-fields block_at 4 n (drop 12 value) in
    let duplicates : length s.duplicates ≡ m =
    ap (λ (t : Tree). length t.duplicates) (sym e)
    ∙ length-fields number32 4 m (drop (12 + 4 * n) value) in
    let size = eqb-true (length value) (12 + 4 * n + 4 * m) whole.0 in
    omega (arith, length-lists s, blocks, duplicates, size)

pub sack_laws : FormatLaws sack.read sack.format
sack_laws =
    format_laws sack.read sack.format sack.bytes (λ s. refl)
    (λ s width formed fits. back s width fits) (λ value s is. tt)
    (λ value. if_passed (length value == 12 + 4 * (numbers_at value).gap_ack_block_count + 4 * (numbers_at value).duplicate_tsn_count) _)
    (λ value s kept is. as_long value s is)
