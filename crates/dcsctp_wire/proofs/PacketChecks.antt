-- A check and a reader of packets, both ways: from what they answer, since each input has one
-- answer.
use Rattle.std.proofs.Common.{◌≡◌, ℕ, List, Result, Ok, Err, inl, inr, refl, ap, ◌∙◌, IsErrOf}
use Rattle.dcsctp_tlv.{specs.declared.reader.Counts.{Counts}, specs.declared.error.ChunkParseError.TheVariants.{OutOfMemory}, specs.Number.{AreBytes}, specs.Level.{MeansTrees}, specs.Reading.{Answers, Exactly, Counted}, proofs.Exact.{Single, Distinct, exactly, error_one, no_memory, counted_single}}
use Rattle.dcsctp_wire.{specs.declared.packet.sctp_packet.PacketParseError.{PacketParseError}, specs.declared.packet.sctp_packet.PacketParseError.TheVariants.{FailedParseChunk}, specs.declared.packet.sctp_packet.ChecksumPolicy.{ChecksumPolicy}, specs.declared.packet.first_fault.FirstFault.{FirstFault}, specs.Chunk.{ChunkTree, chunks}, specs.Packet.{PacketTree, PacketFault, Size, Checksum, Chunk, packet_error_of, IsOpened, body, packet_with, Placed, Answer, IsPacket, packet_reading, packet_checking}, specs.Account.{node_count}, specs.Place.{packet_counts, packet_locating}, proofs.Packets.{answer_one}}

-- ---- errors of packets

pub packet_error_one : (d e : PacketFault) → packet_error_of d ≡ packet_error_of e → d ≡ e
packet_error_one Size Size h = refl
packet_error_one Size Checksum h = absurd cc
packet_error_one Size (Chunk y) h = absurd cc
packet_error_one Checksum Size h = absurd cc
packet_error_one Checksum Checksum h = refl
packet_error_one Checksum (Chunk y) h = absurd cc
packet_error_one (Chunk x) Size h = absurd cc
packet_error_one (Chunk x) Checksum h = absurd cc
packet_error_one (Chunk x) (Chunk y) h = ap Chunk (error_one x y cc)

pub packet_no_memory : (e : PacketFault) → packet_error_of e ≡ FailedParseChunk OutOfMemory → ⊥
packet_no_memory Size h = cc
packet_no_memory Checksum h = cc
packet_no_memory (Chunk e) h = no_memory e cc

packet_reading_distinct : Distinct packet_reading
packet_reading_distinct = record { one = packet_error_one; apart = packet_no_memory }

pub packet_checking_distinct : Distinct packet_checking
packet_checking_distinct = record { one = packet_error_one; apart = λ f none. none }

-- ---- both ways

-- the packet of these chunks
pub packet_is : (bytes : List ℕ) (word : ℕ) (policy : ChecksumPolicy) (ts : List ChunkTree)
    → IsOpened bytes word policy → MeansTrees (chunks policy.strict_padding) (body bytes) ts
    → Answer bytes word policy (Ok (packet_with bytes ts))
packet_is bytes word policy ts opened m =
    (opened, record { header = refl; chunks = m })

-- the answer, with the packet's parts counted
abbrev pub CountedParts : List ℕ → ℕ → ChecksumPolicy → Result ℕ PacketFault → Type 0
CountedParts bytes word policy = Counted (λ p. node_count p.meaning) (Answer bytes word policy)

-- what a check that says the place answers, without the place and the number of chunks
pub check_answers : (bytes : List ℕ) (word : ℕ) (policy : ChecksumPolicy) (found : FirstFault)
    → Answers packet_locating (λ (n : Counts). n) (Counted packet_counts (Placed bytes word policy))
    (Err found)
    → Answers packet_checking (λ (n : ℕ). n) (CountedParts bytes word policy) (Err found.fault)
check_answers bytes word policy found (inl f) =
    inl (f.0.0, ap (λ (x : FirstFault). x.fault) f.1, (f.0.1, f.2))
check_answers bytes word policy found (inr none) = absurd none

module _ (bytes : List ℕ) (word : ℕ) (policy : ChecksumPolicy) (fits : AreBytes bytes) where
  pub packet_single : Single (Answer bytes word policy)
  packet_single a b m n = answer_one bytes word policy a b fits m n

  pub check_exactly : (r : Result ℕ PacketParseError) → Answers packet_checking (λ (n : ℕ). n)
      (CountedParts bytes word policy) r → Exactly packet_checking (λ (n : ℕ). n)
      (CountedParts bytes word policy) r
  check_exactly r a = exactly packet_checking packet_checking_distinct (λ n. n)
      (CountedParts bytes word policy) (counted_single (λ p. node_count p.meaning)
      (Answer bytes word policy) packet_single) r a (λ e is none. absurd none)

  pub read_exactly : {X : Type 0} (view : X → PacketTree) (r : Result X PacketParseError)
      → Answers packet_reading view (Answer bytes word policy) r
      → (IsErrOf r (FailedParseChunk OutOfMemory) → IsPacket bytes word policy)
      → Exactly packet_reading view (Answer bytes word policy) r
  read_exactly view r a memory = exactly packet_reading packet_reading_distinct view
      (Answer bytes word policy) packet_single r a (λ e is lacks. memory (is ∙ ap Err lacks))
