-- What an output is after a SACK was written.
use Rattle.std.{proofs.Common.{◌≡◌, ℕ, ◌+◌, ◌*◌, ◌≤◌, ◌++◌, List, length, drop, refl, ap, ◌∙◌, arith}, specs.Int.{w32, to_be_bytes}, specs.List.{flat_map}, proofs.lemmas.List.{length-map}}
use Rattle.dcsctp_types.specs.declared.types.tsn.Tsn.{Tsn}
use Rattle.dcsctp_tlv.{specs.Format.{flagged_tlv}, specs.Frame.{header}, specs.Image.{put, image_of, written}, specs.Length.{length-each, length-two_lists}, specs.Number.{numbers}, proofs.Puts.{put-put, written_value}}
use Rattle.dcsctp_chunk.specs.Sack.{Tree, block_bytes, fixed, lists, bytes, format, duplicate_numbers}

pub count_of_duplicates : (tsns : List Tsn) → length (duplicate_numbers tsns) ≡ length tsns
count_of_duplicates tsns = length-map tsns (λ tsn. tsn.0)

pub length-lists : (s : Tree) → length (lists s) ≡ 4 * length s.blocks + 4 * length s.duplicates
length-lists s =
    length-two_lists block_bytes 4 s.blocks (to_be_bytes w32) 4 s.duplicates
    (λ b. refl) (λ n. refl)

-- header, numbers and lists, each written after what was written
pub sack_written : (s : Tree) (n : ℕ) (old headed one two out : List ℕ)
    → n ≡ (format s).tlv.value_size → 4 + (format s).tlv.value_size ≤ length old → 4 ≤ length headed
    → headed ≡ header 3 0 n ++ drop 4 old
    → one ≡ put headed 4 (fixed s)
    → two ≡ put one 16 (flat_map block_bytes s.blocks)
    → out ≡ put two (16 + 4 * length s.blocks) (numbers w32 s.duplicates)
    → out ≡ written (image_of (format s).tlv) old
sack_written s n old headed one two out sized room long h p q r =
    let blocks = flat_map block_bytes s.blocks in
    let duplicates = numbers w32 s.duplicates in
    let so_far : two ≡ put headed 4 (fixed s ++ blocks) =
    q ∙ ap (λ (xs : List ℕ). put xs 16 blocks) p
    ∙ put-put headed 4 16 (fixed s) blocks long refl in
    let place : 16 + 4 * length s.blocks ≡ 4 + length (fixed s ++ blocks) =
    (let k = length-each block_bytes 4 s.blocks (λ b. refl) in omega (arith, k)) in
    let size : length (bytes s) ≡ (format s).tlv.value_size =
    (let l = length-lists s in omega (arith, l)) in
    r ∙ ap (λ (xs : List ℕ). put xs (16 + 4 * length s.blocks) duplicates) so_far
    ∙ put-put headed 4 (16 + 4 * length s.blocks) (fixed s ++ blocks) duplicates long place
    ∙ written_value 3 0 n (bytes s) old headed (omega (arith, sized, size))
    (omega (arith, room, size)) h
    ∙ ap (λ (k : ℕ). written (image_of (flagged_tlv 3 0 k (bytes s))) old) size
