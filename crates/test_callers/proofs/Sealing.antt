-- A packet that carries its checksum: which one is read, and which one is refused.
use Rattle.std.proofs.Common.{◌≡◌, ◌≢◌, ◌∙◌, ℕ, ◌<◌, ◌^◌, ◌++◌, true, false, List, [], ◌∷◌, Result, Ok, Err, IfOk, length, take, drop, refl, sym, ap, subst, arith}
use Rattle.std.proofs.lemmas.List.{length-drop}
use Rattle.std.proofs.lemmas.Nat.{from_be_bytes-to_be_bytes_4}
use Rattle.std.specs.Int.{w32, to_le_bytes, from_be_bytes}
use Rattle.dcsctp_crc32c.specs.Checksum.{crc32c, packet_word}
use Rattle.dcsctp_wire.specs.Builder.{BuilderState, Holds, built, meaning_with, checksummed, with_checksum}
use Rattle.dcsctp_wire.specs.Canonical.{canonical}
use Rattle.dcsctp_wire.specs.Chunk.{ChunkTree}
use Rattle.dcsctp_wire.specs.Packet.{PacketTree, Checksum, Meaning, Answer, IsAccepted, disabled, alternate, equal, HasPacketSize, checksum_field, packet_reading, packet_view}
use Rattle.dcsctp_wire.specs.Reading.{Exactly}
use Rattle.dcsctp_wire.specs.declared.packet.sctp_packet.PacketParseError.{PacketParseError}
use Rattle.dcsctp_wire.specs.declared.packet.sctp_packet.SctpPacket.{SctpPacket}
use Rattle.dcsctp_wire.specs.declared.packet.sctp_packet.ChecksumPolicy.{ChecksumPolicy}
use Rattle.test_callers.specs.Sealed.{verifying, Verified, HasOtherField}

pub default_is : (p : ChecksumPolicy) → p.disable_checksum_verification ≡ false
    → p.zero_checksum_alternate_error_detection_method.0 ≡ 0 → p.strict_padding ≡ false
    → p ≡ verifying
default_is p verifies none lenient = λ i. record {
  disable_checksum_verification = verifies i;
  zero_checksum_alternate_error_detection_method = record { 0 = none i };
  strict_padding = lenient i;
}

-- what `from_bytes` answers under the default policy, with the word of the bytes
pub verified : (bytes : List ℕ) (word : ℕ) (policy : ChecksumPolicy)
    (result : Result SctpPacket PacketParseError)
    → Exactly packet_reading packet_view (Answer bytes word policy) result
    → word ≡ packet_word bytes → policy ≡ verifying
    → Exactly packet_reading packet_view (Verified bytes) result
verified bytes word policy result h is default =
    subst (λ (p : ChecksumPolicy). Exactly packet_reading packet_view
    (Answer bytes (packet_word bytes) p) result) default
    (subst (λ (w : ℕ). Exactly packet_reading packet_view (Answer bytes w policy) result) is h)

accepts_word : (field word : ℕ) → IsAccepted verifying field word → field ≡ word
accepts_word field word (disabled off) = absurd (let no : false ≡ true = off in cc)
accepts_word field word (alternate other zero) = absurd (other refl)
accepts_word field word (equal e) = e

-- the word doesn't look at the field
word_apart : (bytes others : List ℕ)
    → take 8 others ≡ take 8 bytes → drop 12 others ≡ drop 12 bytes
    → packet_word others ≡ packet_word bytes
word_apart bytes others before after =
    λ i. from_be_bytes w32 (to_le_bytes w32 (crc32c (before i ++ 0 ∷ 0 ∷ 0 ∷ 0 ∷ after i)))

-- of a packet that is read, no other number in the field is accepted
pub other_refused : (bytes others : List ℕ) (p : PacketTree)
    → Verified bytes (Ok p) → HasOtherField bytes others → Verified others (Err Checksum)
other_refused bytes others p read other =
    let size = read.0.size in
    let rest = ap length other.after in
    let sizes : HasPacketSize others =
    (let a = length-drop 12 others in let b = length-drop 12 bytes in
    record {
      low = omega (arith, rest, a, b, size.low);
      high = omega (arith, rest, a, b, size.low, size.high);
    }) in
    let word = word_apart bytes others other.before other.after in
    let field = accepts_word (checksum_field bytes) (packet_word bytes) read.0.accepted in (
      _,
      (
        sizes,
        (λ accepted. other.field (accepts_word (checksum_field others) (packet_word others)
            accepted ∙ word ∙ sym field)),
        refl,
      ),
    )

-- ---- what is sealed

-- the field of the canonical packet, where the word was written into it
field_of_canonical : (m : Meaning) (word : ℕ) → word < 2 ^ 32
    → checksum_field (with_checksum word (canonical m)) ≡ word
unfolding canonical
field_of_canonical m word fits = from_be_bytes-to_be_bytes_4 word fits

-- in place of the word the canonical packet has zeros
word_of_canonical : (m : Meaning) (word : ℕ)
    → packet_word (with_checksum word (canonical m)) ≡ packet_word (canonical m)
unfolding canonical
word_of_canonical m word = refl

-- the field of what is built with the word holds the word of what is built
pub field_sealed : (b : BuilderState) (word : ℕ) (chunks : List ChunkTree) → chunks ≢ []
    → Holds b chunks
    → b.writes_checksum ≡ true
    → word ≡ packet_word b.bytes → word < 2 ^ 32 → checksum_field (built b word)
    ≡ packet_word (built b word)
field_sealed b word [] some held on is fits = absurd (some refl)
field_sealed b word (chunk ∷ chunks) some held on is fits =
    let m = meaning_with b (chunk ∷ chunks) in
    let bytes : built b word ≡ with_checksum word (canonical m) =
    ap (λ writes. checksummed writes word b.bytes) on ∙ ap (with_checksum word) held.bytes in
    ap checksum_field bytes ∙ field_of_canonical m word fits ∙ is ∙ ap packet_word held.bytes
    ∙ sym (word_of_canonical m word) ∙ ap packet_word (sym bytes)

-- ---- what is read

pub changed_refused : (bytes : List ℕ) (result : Result SctpPacket PacketParseError)
    → Exactly packet_reading packet_view (Verified bytes) result
    → IfOk result (λ _. (others : List ℕ) → HasOtherField bytes others
    → Verified others (Err Checksum))
changed_refused bytes (Ok p) h =
    λ others other. other_refused bytes others (packet_view p) h.answers other
changed_refused bytes (Err e) h = tt
