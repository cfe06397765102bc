-- The code is that of the grammar's answer, and what is written is a form of the packet.
use Rattle.std.proofs.Common.{◌≡◌, ◌≢◌, ◌∙◌, ℕ, List, [], Result, Ok, Err, inl, inr, refl, sym, subst, ap}
use Rattle.dcsctp_tlv.specs.{Fault.{Length, Value, Padding}, Number.{AreBytes}, Reading.{Answers, Exactly, Counted}, declared.error.ChunkParseError.TheVariants.{OutOfMemory}}
use Rattle.dcsctp_wire.{specs.Account.{node_count}, specs.Packet.{PacketTree, PacketFault, Size, Checksum, Chunk, Placed, Answer, IsPacket, packet_error_of, packet_checking, packet_reading, packet_view}, specs.Place.{PacketLocated, packet_locating}, specs.declared.packet.first_fault.FirstFault.{FirstFault}, specs.declared.packet.sctp_packet.ChecksumPolicy.{ChecksumPolicy}, specs.declared.packet.sctp_packet.PacketParseError.{PacketParseError}, specs.declared.packet.sctp_packet.PacketParseError.TheVariants.{FailedParseChunk}, proofs.Lenient.{lenient_packet}, proofs.PacketChecks.{packet_single}, proofs.PacketLaws.{packet_formed}}
use Rattle.dcsctp_c.specs.{Code.{fault_code, answer_code, no_memory_code, IsAnswerCode}, Output.{Output, Writes, written, no_memory, no_room, no_form, WritesPacket, packet, faulty}}

-- ---- codes, where the library was asked with an equal policy

abbrev GivesFaults : PacketParseError → ℕ → Type 0
GivesFaults error code = (e : PacketFault) → error ≡ packet_error_of e → code ≡ fault_code e

-- no fault has the code of a packet
fault_code-some : (e : PacketFault) → fault_code e ≡ 0 → ⊥
fault_code-some Size zero = cc
fault_code-some Checksum zero = cc
fault_code-some (Chunk Length) zero = cc
fault_code-some (Chunk Value) zero = cc
fault_code-some (Chunk Padding) zero = cc

module _ (bytes : List ℕ) (word : ℕ) (asked policy : ChecksumPolicy) (same : asked ≡ policy) where
  asked_for : (a : Result PacketTree PacketFault) → Answer bytes word asked a
      → Answer bytes word policy a
  asked_for a m = subst (λ (p : ChecksumPolicy). Answer bytes word p a) same m

  pub answered : (a : Result PacketTree PacketFault) (code : ℕ) → AreBytes bytes
      → Answer bytes word asked a → code ≡ answer_code a → IsAnswerCode bytes word policy code
  answered a code fits m is = record {
    some = (a, asked_for a m, is);
    each = λ b n. is ∙ ap answer_code (packet_single bytes word policy fits a b (asked_for a m) n);
  }

  pub checked_code : (error : PacketParseError) (code : ℕ) → AreBytes bytes
      → Answers packet_checking (λ (n : ℕ). n)
      (Counted (λ p. node_count p.meaning) (Answer bytes word asked)) (Err error)
      → GivesFaults error code → IsAnswerCode bytes word policy code
  checked_code error code fits (inl f) of = answered (Err f.0) code fits f.2 (of f.0 f.1)
  checked_code error code fits (inr none) of = absurd none

  pub located_code : (found : FirstFault) (code : ℕ) → AreBytes bytes
      → Answers packet_locating (λ (u : Unit {0}). u) (PacketLocated bytes word asked) (Err found)
      → GivesFaults found.fault code → IsAnswerCode bytes word policy code
  located_code found code fits (inl f) of =
      answered (Err f.0.0) code fits (f.0.1, f.2) (of f.0.0 (ap (λ (x : FirstFault). x.fault) f.1))
  located_code found code fits (inr none) of = absurd none

  -- ---- the place of the fault

  pub located_place : (found : FirstFault) (e : PacketFault) (n : ℕ)
      → Exactly packet_locating (λ (u : Unit {0}). u) (PacketLocated bytes word asked) (Err found)
      → Placed bytes word policy (Err (e, n)) → found.offset ≡ n
  located_place found e n h at =
      let here = subst (λ (p : ChecksumPolicy). Placed bytes word p (Err (e, n))) (sym same) at in
      let there : FirstFault = record { fault = packet_error_of e; offset = n } in
      let left : Result (Unit {0}) FirstFault = Err found in
      let is : left ≡ Err there = (h.fault (e, n)).1 here in
      let both : found ≡ there = cc in
      ap (λ (x : FirstFault). x.offset) both

  pub not_both : (p : PacketTree) (e : PacketFault) → AreBytes bytes
      → Answer bytes word asked (Ok p) → Answer bytes word policy (Err e) → ⊥
  not_both p e fits m f =
      let h : Ok p ≡ Err e =
      packet_single bytes word policy fits (Ok p) (Err e) (asked_for (Ok p) m) f in
      cc

  pub no_packet : (found : FirstFault) → AreBytes bytes
      → Answers packet_locating (λ (u : Unit {0}). u) (PacketLocated bytes word asked) (Err found)
      → IsPacket bytes word policy → ⊥
  no_packet found fits (inl f) p =
      let m = asked_for (Err f.0.0) (f.0.1, f.2) in
      let h : Ok p.0 ≡ Err f.0.0 =
      packet_single bytes word policy fits (Ok p.0) (Err f.0.0) p.1 m in
      cc
  no_packet found fits (inr none) p = none

  -- ---- what is written

  pub of_packet : (IsForm : PacketTree → List ℕ → Type 0) (p : PacketTree) (old new : Output)
      (code : ℕ) → Answer bytes word asked (Ok p) → Writes (IsForm p) old new code
      → WritesPacket IsForm bytes word policy old new code
  of_packet IsForm p old new code m h = packet p (asked_for (Ok p) m) h

  pub refused : (IsForm : PacketTree → List ℕ → Type 0) (error : PacketParseError) (old : Output)
      (code : ℕ) → Answers packet_reading packet_view (Answer bytes word asked) (Err error)
      → (error ≡ FailedParseChunk OutOfMemory → IsPacket bytes word asked) → GivesFaults error code
      → (error ≡ FailedParseChunk OutOfMemory → code ≡ no_memory_code)
      → WritesPacket IsForm bytes word policy old old code
  refused IsForm error old code (inl f) memory of lack =
      faulty f.0 (asked_for (Err f.0) f.2) (of f.0 f.1) refl
  refused IsForm error old code (inr lacks) memory of lack =
      let p = memory lacks in
      packet p.0 (asked_for (Ok p.0) p.1) (no_memory (lack lacks) refl)

  pub refused_check : (IsForm : PacketTree → List ℕ → Type 0) (error : PacketParseError)
      (old : Output) (code : ℕ)
      → Answers packet_checking (λ (n : ℕ). n)
      (Counted (λ p. node_count p.meaning) (Answer bytes word asked)) (Err error)
      → GivesFaults error code → WritesPacket IsForm bytes word policy old old code
  refused_check IsForm error old code (inl f) of =
      faulty f.0 (asked_for (Err f.0) f.2) (of f.0 f.1) refl
  refused_check IsForm error old code (inr none) of = absurd none

  -- nor has what was refused
  pub refused_code : (error : PacketParseError) (code : ℕ)
      → Answers packet_checking (λ (n : ℕ). n)
      (Counted (λ p. node_count p.meaning) (Answer bytes word asked)) (Err error)
      → GivesFaults error code → code ≡ 0 → ⊥
  refused_code error code (inl f) of zero = fault_code-some f.0 (sym (of f.0 f.1) ∙ zero)
  refused_code error code (inr none) of zero = none

-- ---- one form

-- a packet has a chunk
pub some_chunk : (bytes : List ℕ) (word : ℕ) (policy : ChecksumPolicy) (p : PacketTree)
    → Answer bytes word policy (Ok p) → p.meaning.chunks ≢ []
some_chunk bytes word policy p m =
    (packet_formed bytes p m.0.size (lenient_packet policy.strict_padding bytes p m.1)).some

pub resized : (old : Output) (n m : ℕ) → n ≡ m → record old { size = n } ≡ record old { size = m }
resized old n m e = ap (λ (k : ℕ). record old { size = k }) e

pub one_form : (IsForm : List ℕ → Type 0) (text : List ℕ) (old new : Output) (code : ℕ)
    → IsForm text → Writes (λ form. form ≡ text) old new code → Writes IsForm old new code
one_form IsForm text old new code h (written form is a b c) =
    written form (subst IsForm (sym is) h) a b c
one_form IsForm text old new code h (no_memory a b) = no_memory a b
one_form IsForm text old new code h (no_room form is a b c) =
    no_room form (subst IsForm (sym is) h) a b c
one_form IsForm text old new code h (no_form never a b) = absurd (never text refl)
