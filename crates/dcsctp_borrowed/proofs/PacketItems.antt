-- The items after the common header of an accepted packet are the frames of its chunks.
use Rattle.std.proofs.Common.{◌≡◌, ℕ, List, sym, ap, subst, ◌∙◌, length-drop}
use Rattle.std.specs.Prelude.{Ok}
use Rattle.dcsctp_tlv.specs.Frame as frame
use Rattle.dcsctp_tlv.specs.{Number.{AreBytes}, Level.{ItemsMean}}
use Rattle.dcsctp_wire.specs.{Chunk.{chunks}, Packet.{PacketTree, Answer, body}, declared.packet.sctp_packet.ChecksumPolicy.{ChecksumPolicy}}
use Rattle.dcsctp_borrowed.specs.{Part.{Part, Item, AreItems, none, next, after, after_item}, Grammar.{whole, items_of_frames}}
use Rattle.dcsctp_borrowed.proofs.FrameItems.{frame_items, bytes_after}

past_header : (bytes : List ℕ) → after 12 (whole bytes) ≡ whole (body bytes)
past_header bytes =
    ap (λ (n : ℕ). record { bytes = body bytes; size = n }) (sym (length-drop 12 bytes))

pub packet_items : (bytes : List ℕ) (word : ℕ) (policy : ChecksumPolicy) (p : PacketTree) → AreBytes bytes
    → Answer bytes word policy (Ok p)
    → (items : List frame.Item) × AreItems (after 12 (whole bytes)) (items_of_frames items)
    × ItemsMean (chunks policy.strict_padding) items p.meaning.chunks
packet_items bytes word policy p fits answer =
    let c = answer.1.chunks in (
      c.items,
      subst (λ q. AreItems q (items_of_frames c.items)) (sym (past_header bytes))
          (frame_items _ c.items (body bytes) (bytes_after 12 bytes fits) c.are),
      c.mean,
    )

pub one_list : (p : Part) (a b : List Item) → AreItems p a → AreItems p b → a ≡ b
one_list p a b (none _ _ ends is) (none _ _ ends_too is_too) = is ∙ sym is_too
one_list p a b (none _ _ ends is) (next _ _ others begins rest is_too) = absurd (cc (ends, begins))
one_list p a b (next _ _ others begins rest is) (none _ _ ends is_too) = absurd (cc (ends, begins))
one_list p a b (next _ _ others begins rest is) (next _ _ more begins_too rest_too is_too) =
    let same = one_list (after_item p) others more rest rest_too in
    cc (same, is, is_too)
