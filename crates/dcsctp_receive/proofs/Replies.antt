-- A reply out of the blue holds one chunk, an ABORT or a SHUTDOWN COMPLETE, so it is discarded; and
-- how this chunk is written.
use Rattle.std.proofs.Common.{◌≡◌, ℕ, Bool, true, false, List, [], ◌∷◌, length, drop, ◌≤◌, ◌==◌, if◌then◌else◌, refl, sym, ap, ap₂, ◌∙◌, length-drop}
use Rattle.dcsctp_tlv.specs.Image.{size_of, image_of, written, solid_tlv}
use Rattle.dcsctp_wire.specs.{Canonical.{canonical}, Chunk.{tlv as chunk_tlv}, declared.packet.common_header.CommonHeader.{CommonHeader}}
use Rattle.dcsctp_borrowed.specs.Grammar.{whole}
use Rattle.dcsctp_buffer.{specs.Buffer.{with_item}, proofs.Items.{solid_item}}
use Rattle.dcsctp_receive.specs.Chunks.{has_header, tag_of, items_of, chunks_of}
use Rattle.dcsctp_receive.specs.OutOfTheBlue.{answer_of, answer_to, reply_chunk, reply_to}
use Rattle.dcsctp_receive.specs.declared.out_of_the_blue.OutOfTheBlue.{OutOfTheBlue}
use Rattle.dcsctp_receive.specs.declared.out_of_the_blue.OutOfTheBlue.TheVariants.{Discard}
use Rattle.dcsctp_receive.specs.declared.out_of_the_blue.Reply.{Reply}
use Rattle.dcsctp_receive.specs.declared.out_of_the_blue.Reply.TheVariants.{ShutdownComplete, Abort}

-- a chunk of this type with the flag T and no value
abbrev bare : ℕ → List ℕ
bare typ = typ ∷ 1 ∷ 0 ∷ 4 ∷ []

abbrev type_of : Reply → ℕ
type_of ShutdownComplete = 14
type_of Abort = 6

-- after the header
body : (h : CommonHeader) (reply : Reply) → drop 12 (canonical (reply_to h reply))
    ≡ bare (type_of reply)
unfolding canonical image_of
body h ShutdownComplete = refl
body h Abort = refl

items : (typ : ℕ) → items_of (whole (bare typ))
    ≡ record { first = typ; second = 1; value = whole [] } ∷ []
unfolding items_of
items typ = refl

chunks : (packet : List ℕ) (typ : ℕ) → drop 12 packet ≡ bare typ
    → chunks_of packet ≡ record { first = typ; second = 1; value = whole [] } ∷ []
chunks packet typ is =
    ap (λ (n : ℕ). items_of (record { bytes = drop 12 packet; size = n }))
    (sym (length-drop 12 packet))
    ∙ ap (λ (bytes : List ℕ). items_of (whole bytes)) is ∙ items typ

discarded : (reply : Reply) (is_unicast : Bool) (tag : ℕ)
    → answer_of is_unicast tag (record { first = type_of reply; second = 1; value = whole [] } ∷ [])
    ≡ Discard
discarded reply false tag = refl
discarded Abort true tag = refl
discarded ShutdownComplete true tag =
    elim (tag == 0) as (λ b. (if b then Discard else Discard) ≡ Discard)
    [ true ↦ refl | false ↦ refl ]

pub reply_is_discarded : (h : CommonHeader) (reply : Reply) (is_unicast : Bool) (packet : List ℕ)
    → drop 12 packet ≡ drop 12 (canonical (reply_to h reply))
    → answer_to is_unicast packet ≡ Discard
reply_is_discarded h reply is_unicast packet is =
    let tag = tag_of packet in
    let done : answer_of is_unicast tag (chunks_of packet) ≡ Discard =
    ap (answer_of is_unicast tag) (chunks packet (type_of reply) (is ∙ body h reply))
    ∙ discarded reply is_unicast tag in
    let same : (b : Bool) → (if b then Discard else Discard) ≡ Discard =
    λ b. elim b as (λ b. (if b then Discard else Discard) ≡ Discard) [ true ↦ refl | false ↦ refl ]
    in
    ap (λ (a : OutOfTheBlue). if has_header packet then a else Discard) done
    ∙ same (has_header packet)

-- ---- as it is written

pub written_reply : (reply : Reply) (typ flags : ℕ) (old : List ℕ)
    → typ ≡ (chunk_tlv (reply_chunk reply)).first → flags ≡ 1
    → size_of (chunk_tlv (reply_chunk reply)) ≤ length old
    → written (image_of (solid_tlv typ flags [])) old
    ≡ with_item (chunk_tlv (reply_chunk reply)) old
written_reply ShutdownComplete typ flags old is t room =
    ap₂ (λ (n m : ℕ). written (image_of (solid_tlv n m [])) old) is t
    ∙ solid_item (chunk_tlv (reply_chunk ShutdownComplete)) [] old refl refl room
written_reply Abort typ flags old is t room =
    ap₂ (λ (n m : ℕ). written (image_of (solid_tlv n m [])) old) is t
    ∙ solid_item (chunk_tlv (reply_chunk Abort)) [] old refl refl room
