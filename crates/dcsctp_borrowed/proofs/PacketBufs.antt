-- A packet that owns its bytes: what is kept of bytes that were checked, or why nothing is.
use Rattle.std.proofs.Common.{◌≡◌, ℕ, List, Result, Ok, Err, inl, inr, refl, sym, ap, subst, ◌∙◌, ◌↔◌, IsErrOf}
use Rattle.dcsctp_tlv.{specs.Number.{AreBytes}, specs.Reading.{Errors, Answers, Exactly}, specs.declared.error.ChunkParseError.TheVariants.{OutOfMemory}, proofs.Exact.{Single, exactly}}
use Rattle.dcsctp_wire.{specs.Packet.{PacketTree, PacketFault, Answer, packet_error_of, packet_reading, packet_checking}, specs.declared.packet.sctp_packet.ChecksumPolicy.{ChecksumPolicy}, specs.declared.packet.sctp_packet.PacketParseError.{PacketParseError}, specs.declared.packet.sctp_packet.PacketParseError.TheVariants.{FailedParseChunk}, proofs.PacketChecks.{packet_error_one, packet_no_memory, packet_single}}
use Rattle.dcsctp_borrowed.{specs.PacketBuf.{HoldsPacket, Kept}, proofs.PacketRefs.{chunks_lent}}

-- the bytes of a packet hold one
pub holds : (bytes : List ℕ) (word : ℕ) (policy : ChecksumPolicy) (p : PacketTree)
    → Answer bytes word policy (Ok p) → HoldsPacket bytes
holds bytes word policy p answer = record {
  size = answer.0.size;
  chunks = (p.meaning.chunks, chunks_lent bytes word policy p answer);
}

module _ (bytes : List ℕ) (word : ℕ) (policy : ChecksumPolicy) (fits : AreBytes bytes) where
  single : Single (Answer bytes word policy)
  single = packet_single bytes word policy fits

  kept_single : Single (Kept bytes word policy)
  kept_single (Ok k) (Ok l) m n = ap Ok (m.1 ∙ sym n.1)
  kept_single (Ok k) (Err e) m f =
      absurd (let h : Ok m.0.0 ≡ Err e = single (Ok m.0.0) (Err e) m.0.1 f in cc)
  kept_single (Err e) (Ok k) f m =
      absurd (let h : Ok m.0.0 ≡ Err e = single (Ok m.0.0) (Err e) m.0.1 f in cc)
  kept_single (Err d) (Err e) f g =
      (let h : Err d ≡ Err e = single (Err d) (Err e) f g in let same : d ≡ e = cc in ap Err same)

  -- what a check answers
  pub check_kept : {X : Type 0} (view : X → List ℕ) (r : Result X PacketParseError)
      → Answers packet_checking view (Kept bytes word policy) r
      → Exactly packet_checking view (Kept bytes word policy) r
  check_kept view r a = exactly packet_checking
      (record { one = packet_error_one; apart = λ f none. none }) view (Kept bytes word policy)
      kept_single r a (λ e is none. absurd none)

-- ---- from the check on

-- what the check answers, of bytes that are these
abbrev Checked : List ℕ → ℕ → ChecksumPolicy → Result (Unit {0}) PacketParseError → Type 0
Checked bytes word policy r =
    Exactly packet_checking (λ (u : Unit {0}). bytes) (Kept bytes word policy) r

module _ {X : Type 0} (view : X → List ℕ) (bytes : List ℕ) (word : ℕ) (policy : ChecksumPolicy) where
  -- the packet is kept
  pub packet_kept : (errors : Errors PacketFault PacketParseError) (x : X) (u : Unit {0})
      → Checked bytes word policy (Ok u) → view x ≡ bytes
      → Exactly errors view (Kept bytes word policy) (Ok x)
  packet_kept errors x u checked is = record {
    answers = (checked.answers.0, is);
    value = λ t m. is ∙ sym m.1;
    fault = λ f. (
      (λ h. absurd cc),
      (λ g. absurd (let h : Ok u ≡ Err (packet_error_of f) = (checked.fault f).1 g in cc)),
    );
  }

  same_fault : (e : PacketParseError) → Checked bytes word policy (Err e) → (f : PacketFault)
      → IsErrOf {T = X} (Err e) (packet_error_of f) ↔ Kept bytes word policy (Err f)
  same_fault e checked f = (
    (λ h. (let is : e ≡ packet_error_of f = cc in (checked.fault f).0 (ap Err is))),
    (λ g. (let h : Err e ≡ Err (packet_error_of f) = (checked.fault f).1 g in
        let is : e ≡ packet_error_of f = cc in ap Err is)),
  )

  -- the fault is returned, by a check
  pub fault_checked : (e : PacketParseError) → Checked bytes word policy (Err e)
      → Exactly packet_checking view (Kept bytes word policy) (Err e)
  fault_checked e checked = record {
    answers = checked.answers;
    value = checked.value;
    fault = same_fault e checked;
  }

  -- and by a reader
  pub fault_kept : (e : PacketParseError) → Checked bytes word policy (Err e)
      → Exactly packet_reading view (Kept bytes word policy) (Err e)
  fault_kept e checked = record {
    answers = elim checked.answers [ inl found ↦ inl found | inr none ↦ absurd none ];
    value = λ t m. absurd (checked.value t m);
    fault = same_fault e checked;
  }

  -- memory ran out, for a packet
  pub memory_kept : (u : Unit {0}) → Checked bytes word policy (Ok u)
      → Exactly packet_reading view (Kept bytes word policy) (Err (FailedParseChunk OutOfMemory))
  memory_kept u checked = record {
    answers = inr refl;
    value = λ t m. refl;
    fault = λ f. (
      (λ h. absurd (let is : packet_error_of f ≡ FailedParseChunk OutOfMemory = cc in
          packet_no_memory f is)),
      (λ g. absurd (let h : Ok u ≡ Err (packet_error_of f) = (checked.fault f).1 g in cc)),
    );
  }

-- the same check, of a slice of the same bytes
pub checked_as : (slice bytes : List ℕ) (word : ℕ) (policy : ChecksumPolicy)
    (r : Result (Unit {0}) PacketParseError) → slice ≡ bytes → Checked slice word policy r
    → Checked bytes word policy r
checked_as slice bytes word policy r is checked =
    subst (λ (b : List ℕ). Checked b word policy r) is checked
