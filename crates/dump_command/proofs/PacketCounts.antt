-- A packet was counted: it was accepted, or refused.
use Rattle.std.proofs.Common.{◌≡◌, ◌⊎◌, inl, inr, ◌≤◌, ℕ, List, length, fold, Err, ap, subst, ◌∙◌}
use Rattle.dump_capture.specs.Frame.{Packet}
use Rattle.dcsctp_crc32c.specs.Checksum.{packet_word}
use Rattle.dcsctp_wire.specs.Packet.{PacketFault, Placed, Answer, IsPacket, body, packet_error_of}
use Rattle.dcsctp_wire.specs.declared.packet.sctp_packet.ChecksumPolicy.{ChecksumPolicy}
use Rattle.dcsctp_wire.specs.declared.packet.first_fault.FirstFault.{FirstFault}
use Rattle.dcsctp_borrowed.specs.PacketRef.{reference}
use Rattle.dcsctp_borrowed.specs.declared.packet_ref.SctpPacketRef.{SctpPacketRef}
use Rattle.dump_command.specs.Verdict.{IsVerdict}
use Rattle.dump_command.specs.declared.counts.Verdict.TheVariants.{Accepted, Refused}
use Rattle.dump_command.specs.declared.options.Options.{Options}
use Rattle.dump_command.specs.declared.counts.Counts.{Counts}
use Rattle.dump_capture.specs.Number.{one_more}
use Rattle.dump_packet.specs.ChunkTypes.{ChunkTypes}
use Rattle.dump_command.specs.Counts.{policy_of, with_kind, accepted_with, with_checksum, refused_by, CountsPacket, whole, faulty}

-- the first fault of a packet, and its place
abbrev IsLocated : Packet → ℕ → ChecksumPolicy → FirstFault → Type 0
IsLocated p word policy first =
    (f : PacketFault × ℕ) × (first ≡ record { fault = packet_error_of f.0; offset = f.1 })
    × Placed p.bytes word policy (Err f)

pub counted_accepted : (o : Options) (before checked after : Counts) (p : Packet) (word n : ℕ)
    (policy : ChecksumPolicy) (r : SctpPacketRef) → p.length ≤ length p.bytes
    → word ≡ packet_word p.bytes → policy ≡ policy_of o
    → IsPacket p.bytes word policy × (r ≡ reference p.bytes)
    → checked ≡ with_checksum before p.bytes word → n ≡ one_more checked.accepted
    → (types : List ℕ) × ChunkTypes r.chunks types
    × (after ≡ record checked { accepted = n; kinds = fold with_kind checked.kinds types })
    → CountsPacket o before p after
counted_accepted o before checked after p word n policy r size word_is policy_is (is, refers)
    checked_is n_is (types, are, after_is) =
    let chunks : r.chunks ≡ body p.bytes = ap (λ (x : SctpPacketRef). x.chunks) refers in
    whole types size
    (subst (λ (x : ChecksumPolicy). IsPacket p.bytes (packet_word p.bytes) x) policy_is
    (subst (λ (w : ℕ). IsPacket p.bytes w policy) word_is is))
    (subst (λ (l : List ℕ). ChunkTypes l types) chunks are)
    (after_is
    ∙ ap (λ (m : ℕ). record checked { accepted = m; kinds = fold with_kind checked.kinds types })
    n_is
    ∙ ap (λ (c : Counts). accepted_with c types)
    (checked_is ∙ ap (with_checksum before p.bytes) word_is))

pub counted_refused : (o : Options) (before checked after : Counts) (p : Packet) (word : ℕ)
    (policy : ChecksumPolicy) (first : FirstFault) → p.length ≤ length p.bytes
    → word ≡ packet_word p.bytes → policy ≡ policy_of o → IsLocated p word policy first ⊎ ⊥
    → checked ≡ with_checksum before p.bytes word → after ≡ refused_by checked first.fault
    → CountsPacket o before p after
counted_refused o before checked after p word policy first size word_is policy_is (inr none)
    checked_is after_is = absurd none
counted_refused o before checked after p word policy first size word_is policy_is
    (inl ((f, n), first_is, placed)) checked_is after_is =
    faulty f size
    (subst (λ (x : ChecksumPolicy). Answer p.bytes (packet_word p.bytes) x (Err f)) policy_is
    (subst (λ (w : ℕ). Answer p.bytes w policy (Err f)) word_is (n, placed)))
    (after_is ∙ ap (λ (x : FirstFault). refused_by checked x.fault) first_is
    ∙ ap (λ (c : Counts). refused_by c (packet_error_of f))
    (checked_is ∙ ap (with_checksum before p.bytes) word_is))

-- ---- what was found of it

pub found_accepted : (o : Options) (p : Packet) (word : ℕ) (policy : ChecksumPolicy)
    (r : SctpPacketRef) → p.length ≤ length p.bytes → word ≡ packet_word p.bytes
    → policy ≡ policy_of o → IsPacket p.bytes word policy × (r ≡ reference p.bytes)
    → IsVerdict o p Accepted word
found_accepted o p word policy r size word_is policy_is (is, refers) =
    (size, word_is, subst (λ (x : ChecksumPolicy). IsPacket p.bytes word x) policy_is is)

pub found_refused : (o : Options) (p : Packet) (word : ℕ) (policy : ChecksumPolicy)
    (first : FirstFault) → p.length ≤ length p.bytes → word ≡ packet_word p.bytes
    → policy ≡ policy_of o → IsLocated p word policy first ⊎ ⊥ → IsVerdict o p Refused word
found_refused o p word policy first size word_is policy_is (inr none) = absurd none
found_refused o p word policy first size word_is policy_is (inl ((f, n), first_is, placed)) = (
  size,
  word_is,
  (f, subst (λ (x : ChecksumPolicy). Answer p.bytes word x (Err f)) policy_is (n, placed)),
)
