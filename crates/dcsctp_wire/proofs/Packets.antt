-- Each input has one answer.
use Rattle.std.proofs.{Common.{rules, ◌≡◌, ◌≢◌, ℕ, ◌+◌, List, length, Result, Ok, Err, refl, sym, ap, ◌∙◌, arith, ◌⊎◌, inl, inr, Bool, true, false, get_or-drop}, lemmas.Bool.{cases_lt}, lemmas.Bool.Decides.{eqb_tells}}
use Rattle.dcsctp_tlv.{specs.Fault.{Fault}, specs.Number.{AreBytes}, proofs.Exact.{unplaced_single}, proofs.Laws.{list_one, list_apart, list_same, list_some}}
use Rattle.dcsctp_wire.{specs.declared.packet.sctp_packet.ChecksumPolicy.{ChecksumPolicy}, specs.declared.packet.common_header.CommonHeader.{CommonHeader}, specs.Chunk.{chunks}, specs.Packet.{PacketTree, HasPacketSize, IsAccepted, disabled, alternate, equal, checksum_field, body, MeansPacket, with_header, packet_with, PacketFault, Size, Checksum, Chunk, Placed, Answer}, proofs.ChunkRows.{chunks_lawful}}

-- ---- one answer

pub body_fits : (bytes : List ℕ) → AreBytes bytes → AreBytes (body bytes)
body_fits bytes fits i = rw get_or-drop (fits (12 + i))

-- a packet with these numbers has the header
pub has_header : (p : PacketTree) (h : CommonHeader) → p.meaning.source ≡ h.source_port
    → p.meaning.destination ≡ h.destination_port → p.meaning.tag ≡ h.verification_tag
    → p.checksum ≡ h.checksum → p ≡ with_header h p.meaning.chunks
has_header p h a b c e = λ k. record {
  meaning = record {
    source = a k;
    destination = b k;
    tag = c k;
    chunks = p.meaning.chunks;
  };
  checksum = e k;
}

pub packet_one : (strict : Bool) (bytes : List ℕ) (p q : PacketTree) → MeansPacket strict bytes p
    → MeansPacket strict bytes q → p ≡ q
packet_one strict bytes p q m n =
    m.header ∙ ap (packet_with bytes) (list_one (chunks strict) (chunks_lawful strict) (body bytes)
    p.meaning.chunks q.meaning.chunks m.chunks n.chunks) ∙ sym n.header

pub placed_one : (bytes : List ℕ) (word : ℕ) (policy : ChecksumPolicy)
    (a b : Result PacketTree (PacketFault × ℕ)) → AreBytes bytes → Placed bytes word policy a
    → Placed bytes word policy b → a ≡ b
placed_one bytes word policy (Ok p) (Ok q) fits m n =
    ap Ok (packet_one policy.strict_padding bytes p q m.1 n.1)
placed_one bytes word policy (Ok p) (Err (Chunk e, j)) fits m n = absurd
    (list_apart (chunks policy.strict_padding) (chunks_lawful policy.strict_padding) (body bytes)
    p.meaning.chunks (e, n.1.0) (body_fits bytes fits) m.1.chunks n.1.1)
placed_one bytes word policy (Err (Size, i)) (Err (Size, j)) fits m n =
    ap (λ (k : ℕ). Err (Size, k)) (m.1 ∙ sym n.1)
placed_one bytes word policy (Err (Checksum, i)) (Err (Checksum, j)) fits m n =
    ap (λ (k : ℕ). Err (Checksum, k)) (m.2 ∙ sym n.2)
placed_one bytes word policy (Err (Chunk d, i)) (Ok q) fits m n = absurd
    (list_apart (chunks policy.strict_padding) (chunks_lawful policy.strict_padding) (body bytes)
    q.meaning.chunks (d, m.1.0) (body_fits bytes fits) n.1.chunks m.1.1)
placed_one bytes word policy (Err (Chunk d, i)) (Err (Chunk e, j)) fits m n =
    ap (λ (k : ℕ). Err (Chunk d, k)) m.1.2 ∙ ap (λ (f : Fault × ℕ). Err (Chunk f.0, 12 + f.1))
    (list_same (chunks policy.strict_padding) (chunks_lawful policy.strict_padding) (body bytes)
    (d, m.1.0) (e, n.1.0) (body_fits bytes fits) m.1.1 n.1.1)
    ∙ ap (λ (k : ℕ). Err (Chunk e, k)) (sym n.1.2)
placed_one bytes word policy a b fits m n = absurd (search rules)

pub answer_one : (bytes : List ℕ) (word : ℕ) (policy : ChecksumPolicy)
    (a b : Result PacketTree PacketFault) → AreBytes bytes → Answer bytes word policy a
    → Answer bytes word policy b → a ≡ b
answer_one bytes word policy a b fits m n = unplaced_single (Placed bytes word policy)
    (λ c d p q. placed_one bytes word policy c d fits p q) a b m n

size_tells : (bytes : List ℕ) → HasPacketSize bytes ⊎ (¬ HasPacketSize bytes)
size_tells bytes = elim (cases_lt (length bytes) 16) [
  | inl short ↦ inr (λ h. (let k = h.low in omega arith))
  | inr low ↦ elim (cases_lt 65535 (length bytes)) [
    | inl long ↦ inr (λ h. (let k = h.high in omega arith))
    | inr high ↦ inl (record { low = low; high = high })
  ]
]

nat_tells : (m n : ℕ) → (m ≡ n) ⊎ (m ≢ n)
nat_tells m n = elim (eqb_tells m n) [ inl p ↦ inl p.1 | inr p ↦ inr p.1 ]

accepted_tells : (policy : ChecksumPolicy) (field word : ℕ) → IsAccepted policy field word
    ⊎ (¬ IsAccepted policy field word)
accepted_tells policy field word = off (policy.disable_checksum_verification) refl where
  refused : policy.disable_checksum_verification ≡ false
      → (policy.zero_checksum_alternate_error_detection_method.0 ≡ 0) ⊎ (field ≢ 0) → field ≢ word
      → IsAccepted policy field word → ⊥
  refused e f g (disabled h) = let p : false ≡ true = sym e ∙ h in cc
  refused e (inl f) g (alternate h k) = h f
  refused e (inr f) g (alternate h k) = f k
  refused e f g (equal h) = g h

  off : (b : Bool) → policy.disable_checksum_verification ≡ b → IsAccepted policy field word
      ⊎ (¬ IsAccepted policy field word)
  off true e = inl (disabled e)
  off false e = elim (nat_tells field word) [
    | inl h ↦ inl (equal h)
    | inr g ↦ elim (nat_tells policy.zero_checksum_alternate_error_detection_method.0 0) [
      | inl m ↦ inr (refused e (inl m) g)
      | inr m ↦ elim (nat_tells field 0) [
        | inl z ↦ inl (alternate m z)
        | inr z ↦ inr (refused e (inr z) g)
      ]
    ]
  ]

pub placed_some : (bytes : List ℕ) (word : ℕ) (policy : ChecksumPolicy) → AreBytes bytes
    → (a : Result PacketTree (PacketFault × ℕ)) × Placed bytes word policy a
placed_some bytes word policy fits = elim (size_tells bytes) [
  | inr no_size ↦ (Err (Size, _), (no_size, refl))
  | inl size ↦ elim (accepted_tells policy (checksum_field bytes) word) [
    | inr refused ↦ (Err (Checksum, 8), (size, refused, refl))
    | inl accepted ↦ elim (list_some (chunks policy.strict_padding)
        (chunks_lawful policy.strict_padding) (body bytes) (body_fits bytes fits)) [
          | inl m ↦ (
            Ok (packet_with bytes m.0),
            (
              record { size = size; accepted = accepted },
              record { header = refl; chunks = m.1 },
            ),
          )
          | inr f ↦ (
            Err (Chunk f.0.0, 12 + f.0.1),
            (record { size = size; accepted = accepted }, (f.0.1, f.1, refl)),
          )
        ]
  ]
]

pub answer_some : (bytes : List ℕ) (word : ℕ) (policy : ChecksumPolicy) → AreBytes bytes
    → (a : Result PacketTree PacketFault) × Answer bytes word policy a
answer_some bytes word policy fits = of (placed_some bytes word policy fits) where
  of : (a : Result PacketTree (PacketFault × ℕ)) × Placed bytes word policy a
      → (b : Result PacketTree PacketFault) × Answer bytes word policy b
  of (Ok p, m) = (Ok p, m)
  of (Err f, m) = (Err f.0, (f.1, m))
