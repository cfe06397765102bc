-- The types of an accepted packet's chunks are those of its items.
use Rattle.std.proofs.Common.{◌≡◌, ℕ, true, false, List, [], ◌∷◌, drop, slice_index, sym, ap, subst, ◌∙◌, refl, length-drop, arith}
use Rattle.std.specs.Prelude.{Ok, map}
use Rattle.dcsctp_tlv.specs.Frame as frame
use Rattle.dcsctp_tlv.specs.{Number.{AreBytes}, Level.{ItemsMean}}
use Rattle.dcsctp_tlv.specs.Frame.{BeginsWithFrame, frame_rest, frame_length, round_up_to_4}
use Rattle.dcsctp_wire.specs.{Chunk.{chunks}, Packet.{PacketTree, Answer, body}, declared.packet.sctp_packet.ChecksumPolicy.{ChecksumPolicy}}
use Rattle.dcsctp_borrowed.specs.{Part.{Item, AreItems, begins_with_item, after}, Grammar.{whole, items_of_frames}}
use Rattle.dcsctp_borrowed.specs.Part as items
use Rattle.dcsctp_borrowed.proofs.PacketItems.{packet_items}
use Rattle.dump_packet.specs.ChunkTypes.{ChunkTypes, none, next}

past : (n : ℕ) (bytes : List ℕ) → after n (whole bytes) ≡ whole (drop n bytes)
past n bytes =
    ap (λ (m : ℕ). record { bytes = drop n bytes; size = m }) (sym (length-drop n bytes))

begins : (bytes : List ℕ) → BeginsWithFrame bytes → begins_with_item (whole bytes) ≡ true
begins bytes f = grind (arith, f.header, f.low, f.high)

empty : (bytes : List ℕ) → bytes ≡ [] → begins_with_item (whole bytes) ≡ false
empty bytes is = rw is refl

pub types_of : (bytes types : List ℕ) (found : List Item) → ChunkTypes bytes types
    → AreItems (whole bytes) found → types ≡ map (λ i. i.first) found
types_of bytes types found (none _ _ is types_is) (items.none _ _ ends found_is) =
    types_is ∙ sym (ap (λ (l : List Item). map (λ i. i.first) l) found_is)
types_of bytes types found (none _ _ is types_is) (items.next _ _ others more rest found_is) =
    let ends = empty bytes is in absurd (cc (ends, more))
types_of bytes types found (next _ _ others frame rest types_is) (items.none _ _ ends found_is) =
    let more = begins bytes frame in absurd (cc (ends, more))
types_of bytes types found (next _ _ others frame rest types_is)
    (items.next _ _ others_found more rest_found found_is) =
    let same = types_of (frame_rest bytes) others others_found rest
    (subst (λ p. AreItems p others_found) (past (round_up_to_4 (frame_length bytes)) bytes) rest_found) in
    types_is ∙ ap (λ (l : List ℕ). slice_index bytes 0 ∷ l) same
    ∙ sym (ap (λ (l : List Item). map (λ i. i.first) l) found_is)

firsts : (is : List frame.Item) → map (λ i. i.first) (items_of_frames is) ≡ map (λ i. i.first) is
firsts [] = refl
firsts (i ∷ is) = ap (λ (l : List ℕ). i.first ∷ l) (firsts is)

pub chunk_types : (bytes : List ℕ) (word : ℕ) (policy : ChecksumPolicy) (p : PacketTree)
    (types : List ℕ) → AreBytes bytes → Answer bytes word policy (Ok p)
    → ChunkTypes (body bytes) types
    → (items : List frame.Item) × ItemsMean (chunks policy.strict_padding) items p.meaning.chunks
    × (types ≡ map (λ i. i.first) items)
chunk_types bytes word policy p types fits answer are =
    let found = packet_items bytes word policy p fits answer in (
      found.0,
      found.2,
      types_of (body bytes) types (items_of_frames found.0) are
          (subst (λ q. AreItems q (items_of_frames found.0)) (past 12 bytes) found.1)
          ∙ firsts found.0,
    )
