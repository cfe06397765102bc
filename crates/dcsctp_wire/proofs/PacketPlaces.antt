-- The first fault of a packet and its place, both ways: from what a check finds, since each input
-- has one answer.
use Rattle.std.{proofs.Common.{◌≡◌, ℕ, ◌+◌, List, Result, Ok, Err, inl, inr, refl, ap}, specs.Result.{result_err}}
use Rattle.dcsctp_tlv.{specs.declared.reader.Counts.{Counts}, specs.declared.error.LocatedFault.{LocatedFault}, specs.Number.{AreBytes}, specs.Reading.{Answers, Exactly, locating, ListAnswer, Counted, counts}, proofs.Exact.{Distinct, exactly, counted_single}}
use Rattle.dcsctp_wire.{specs.declared.packet.sctp_packet.PacketParseError.TheVariants.{FailedParseChunk}, specs.declared.packet.sctp_packet.ChecksumPolicy.{ChecksumPolicy}, specs.declared.packet.first_fault.FirstFault.{FirstFault}, specs.Chunk.{chunks, parts as chunk_parts}, specs.Packet.{PacketFault, Chunk, IsOpened, body, Placed, packet_error_of}, specs.Place.{packet_locating, packet_counts, refused}, proofs.Packets.{placed_one}, proofs.PacketChecks.{packet_error_one}}

-- ---- what a check finds

-- a fault and its place
pub fault_there : (bytes : List ℕ) (word : ℕ) (policy : ChecksumPolicy) (e : PacketFault) (n : ℕ)
    → Placed bytes word policy (Err (e, n))
    → Answers packet_locating (λ (k : Counts). k) (Counted packet_counts (Placed bytes word policy))
    (Err (record { fault = packet_error_of e; offset = n }))
fault_there bytes word policy e n f = inl ((e, n), refl, f)

-- a fault of the chunks, so far from the first
pub chunk_fault : (bytes : List ℕ) (word : ℕ) (policy : ChecksumPolicy) (l : LocatedFault)
    → IsOpened bytes word policy
    → Answers locating (λ (n : Counts). n) (Counted (counts chunk_parts)
    (ListAnswer (chunks policy.strict_padding) (body bytes))) (Err l)
    → Answers packet_locating (λ (n : Counts). n) (Counted packet_counts (Placed bytes word policy))
    (Err (record { fault = FailedParseChunk l.fault; offset = 12 + l.offset }))
chunk_fault bytes word policy l opened (inl f) =
    let place : LocatedFault → FirstFault =
    λ x. record { fault = FailedParseChunk x.fault; offset = 12 + x.offset } in
    inl ((Chunk f.0.0, 12 + f.0.1), ap place f.1, (opened, (f.0.1, f.2, refl)))
chunk_fault bytes word policy l opened (inr none) = absurd none

-- ---- both ways

packet_locating_distinct : Distinct packet_locating
packet_locating_distinct = record {
  one = λ d e h. (
      let same : d.0 ≡ e.0 = packet_error_one d.0 e.0 (ap (λ (x : FirstFault). x.fault) h) in
      let there : d.1 ≡ e.1 = ap (λ (x : FirstFault). x.offset) h in
      λ k. (same k, there k));
  apart = λ f none. none;
}

module _ (bytes : List ℕ) (word : ℕ) (policy : ChecksumPolicy) (fits : AreBytes bytes) where
  located_answers : (r : Result Counts FirstFault) → Answers packet_locating (λ (n : Counts). n)
      (Counted packet_counts (Placed bytes word policy)) r
      → Answers packet_locating (λ (u : Unit {0}). u) (Counted (λ p. tt) (Placed bytes word policy))
      (refused (result_err r))
  located_answers (Ok n) a = (a.0, a.1, refl)
  located_answers (Err x) a = a

  pub located_exactly : (r : Result Counts FirstFault) → Answers packet_locating (λ (n : Counts). n)
      (Counted packet_counts (Placed bytes word policy)) r
      → Exactly packet_locating (λ (u : Unit {0}). u) (Counted (λ p. tt) (Placed bytes word policy))
      (refused (result_err r))
  located_exactly r a = exactly packet_locating packet_locating_distinct (λ u. u)
      (Counted (λ p. tt) (Placed bytes word policy)) (counted_single (λ p. tt)
      (Placed bytes word policy) (λ c d p q. placed_one bytes word policy c d fits p q))
      (refused (result_err r)) (located_answers r a) (λ e is none. absurd none)
