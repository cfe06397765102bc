-- A packet in whose bytes one number of the header was written.
use Rattle.std.{proofs.Common.{◌≡◌, ◌≤◌, ◌<◌, ◌+◌, ◌^◌, ℕ, List, ◌++◌, Ok, Err, length, take, drop, refl, sym, ap, subst, ◌∙◌, append_assoc, arith, length-append, length-take, length-drop, take_at, drop_at, drop-drop, take-take}, specs.Int.{w16, w32, to_be_bytes, from_be_bytes}, proofs.lemmas.List.{drop-take}, proofs.lemmas.Nat.{from_be_bytes-to_be_bytes_4}}
use Rattle.dcsctp_tlv.specs.{Image.{put}, Number.{number32}, Level.{MeansTrees, HasFault}}
use Rattle.dcsctp_wire.{specs.Chunk.{chunks}, proofs.Packets.{has_header}, specs.Packet.{PacketTree, PacketFault, Size, Checksum, Chunk, HasPacketSize, IsAccepted, IsOpened, Answer, checksum_field, header_of, body}, specs.declared.packet.sctp_packet.ChecksumPolicy.{ChecksumPolicy}}

-- ---- bytes at a place

before : (old : List ℕ) (place : ℕ) (bytes : List ℕ) → place ≤ length old
    → take place (put old place bytes) ≡ take place old
before old place bytes le = take_at (take place old) (bytes ++ drop (place + length bytes) old)
    place (let l = length-take place old in omega (arith, l))

after : (old : List ℕ) (place : ℕ) (bytes : List ℕ) → place ≤ length old
    → drop (place + length bytes) (put old place bytes) ≡ drop (place + length bytes) old
after old place bytes le =
    ap (drop (place + length bytes))
    (sym (append_assoc (take place old) bytes (drop (place + length bytes) old)))
    ∙ drop_at (take place old ++ bytes) (drop (place + length bytes) old) (place + length bytes)
    (let l = length-take place old in let k = length-append (take place old) bytes in
    omega (arith, l, k))

there : (old : List ℕ) (place : ℕ) (bytes : List ℕ) → place ≤ length old
    → take (length bytes) (drop place (put old place bytes)) ≡ bytes
there old place bytes le =
    ap (take (length bytes)) (drop_at (take place old) (bytes ++ drop (place + length bytes) old)
    place (let l = length-take place old in omega (arith, l)))
    ∙ take_at bytes (drop (place + length bytes) old) (length bytes) refl

length-put : (old : List ℕ) (place : ℕ) (bytes : List ℕ) → place + length bytes ≤ length old
    → length (put old place bytes) ≡ length old
length-put old place bytes le =
    let l = length-take place old in
    let d = length-drop (place + length bytes) old in
    let a = length-append (take place old) (bytes ++ drop (place + length bytes) old) in
    let b = length-append bytes (drop (place + length bytes) old) in
    omega (arith, l, d, a, b)

-- what lies within the bytes that are the same is the same
within : (n m k : ℕ) (xs ys : List ℕ) → take k xs ≡ take k ys → n + m ≤ k
    → take m (drop n xs) ≡ take m (drop n ys)
within n m k xs ys e le =
    sym (drop-take n m xs) ∙ ap (drop n) (sym (take-take (n + m) k xs le) ∙ ap (take (n + m)) e
    ∙ take-take (n + m) k ys le) ∙ drop-take n m ys

-- ---- the tag

module _ (old : List ℕ) (n : ℕ) (room : 12 ≤ length old) (fits : n < 2 ^ 32) where
  abbrev pub tagged : List ℕ
  tagged = put old 4 (to_be_bytes w32 n)

  tag_before : take 4 tagged ≡ take 4 old
  tag_before = before old 4 (to_be_bytes w32 n) (omega (arith, room))

  tag_after : drop 8 tagged ≡ drop 8 old
  tag_after = after old 4 (to_be_bytes w32 n) (omega (arith, room))

  tag_body : body tagged ≡ body old
  tag_body = sym (drop-drop 4 8 tagged) ∙ ap (drop 4) tag_after ∙ drop-drop 4 8 old

  tag_length : length tagged ≡ length old
  tag_length = length-put old 4 (to_be_bytes w32 n) (omega (arith, room))

  tag_is : number32 (drop 4 tagged) ≡ n
  tag_is = ap (from_be_bytes w32) (there old 4 (to_be_bytes w32 n) (omega (arith, room)))
      ∙ from_be_bytes-to_be_bytes_4 n fits

  tag_size : HasPacketSize old → HasPacketSize tagged
  tag_size size = record {
    low = omega (arith, tag_length, size.low);
    high = omega (arith, tag_length, size.high);
  }

  tag_unsized : HasPacketSize tagged → HasPacketSize old
  tag_unsized size = record {
    low = omega (arith, tag_length, size.low);
    high = omega (arith, tag_length, size.high);
  }

  tag_field : checksum_field tagged ≡ checksum_field old
  tag_field = ap number32 tag_after

  tag_opened : (word : ℕ) (policy : ChecksumPolicy) → IsOpened old word policy
      → IsOpened tagged word policy
  tag_opened word policy o = record {
    size = tag_size o.size;
    accepted = subst (λ (field : ℕ). IsAccepted policy field word) (sym tag_field) o.accepted;
  }

  pub with_tag : (word : ℕ) (policy : ChecksumPolicy) (p : PacketTree)
      → Answer old word policy (Ok p)
      → Answer tagged word policy (Ok (record p { meaning = record p.meaning { tag = n } }))
  with_tag word policy p m = (
    tag_opened word policy m.0,
    record {
      header = has_header (record p { meaning = record p.meaning { tag = n } }) (header_of tagged)
          (ap (λ (q : PacketTree). q.meaning.source) m.1.header ∙ ap (from_be_bytes w16)
          (sym (within 0 2 4 tagged old tag_before (omega arith))))
          (ap (λ (q : PacketTree). q.meaning.destination) m.1.header ∙ ap (from_be_bytes w16)
          (sym (within 2 2 4 tagged old tag_before (omega arith))))
          (sym tag_is) (ap (λ (q : PacketTree). q.checksum) m.1.header ∙ sym tag_field);
      chunks = subst (λ (bytes : List ℕ). MeansTrees (chunks policy.strict_padding) bytes
          p.meaning.chunks) (sym tag_body) m.1.chunks;
    },
  )

  pub with_tag_fault : (word : ℕ) (policy : ChecksumPolicy) (e : PacketFault)
      → Answer old word policy (Err e) → Answer tagged word policy (Err e)
  with_tag_fault word policy Size h = (_, ((λ size. h.1.0 (tag_unsized size)), refl))
  with_tag_fault word policy Checksum h = (
    _,
    (
      tag_size h.1.0,
      (λ accepted. h.1.1 (subst (λ (field : ℕ). IsAccepted policy field word) tag_field accepted)),
      refl,
    ),
  )
  with_tag_fault word policy (Chunk e) h = (
    h.0,
    (
      tag_opened word policy h.1.0,
      (
        h.1.1.0,
        subst (λ (bytes : List ℕ). HasFault (chunks policy.strict_padding) bytes
            (e, h.1.1.0)) (sym tag_body) h.1.1.1,
        h.1.1.2,
      ),
    ),
  )

-- ---- the checksum field

module _ (old : List ℕ) (n : ℕ) (room : 12 ≤ length old) (fits : n < 2 ^ 32) where
  abbrev pub sealed : List ℕ
  sealed = put old 8 (to_be_bytes w32 n)

  pub seal_before : take 8 sealed ≡ take 8 old
  seal_before = before old 8 (to_be_bytes w32 n) (omega (arith, room))

  pub seal_after : drop 12 sealed ≡ drop 12 old
  seal_after = after old 8 (to_be_bytes w32 n) (omega (arith, room))

  seal_length : length sealed ≡ length old
  seal_length = length-put old 8 (to_be_bytes w32 n) (omega (arith, room))

  pub seal_is : checksum_field sealed ≡ n
  seal_is = ap (from_be_bytes w32) (there old 8 (to_be_bytes w32 n) (omega (arith, room)))
      ∙ from_be_bytes-to_be_bytes_4 n fits

  pub with_checksum_word : (p : PacketTree) (word expected : ℕ) (first later : ChecksumPolicy)
      → Answer old word first (Ok p) → IsAccepted later n expected
      → later.strict_padding ≡ first.strict_padding
      → Answer sealed expected later (Ok (record p { checksum = n }))
  with_checksum_word p word expected first later m accepted strict = (
    record {
      size = record {
        low = omega (arith, seal_length, m.0.size.low);
        high = omega (arith, seal_length, m.0.size.high);
      };
      accepted = subst (λ (field : ℕ). IsAccepted later field expected) (sym seal_is) accepted;
    },
    record {
      header = has_header (record p { checksum = n }) (header_of sealed)
          (ap (λ (q : PacketTree). q.meaning.source) m.1.header ∙ ap (from_be_bytes w16)
          (sym (within 0 2 8 sealed old seal_before (omega arith))))
          (ap (λ (q : PacketTree). q.meaning.destination) m.1.header ∙ ap (from_be_bytes w16)
          (sym (within 2 2 8 sealed old seal_before (omega arith))))
          (ap (λ (q : PacketTree). q.meaning.tag) m.1.header ∙ ap (from_be_bytes w32)
          (sym (within 4 4 8 sealed old seal_before (omega arith)))) (sym seal_is);
      chunks = rw strict (subst (λ (bytes : List ℕ). MeansTrees (chunks first.strict_padding) bytes
          p.meaning.chunks) (sym (after old 8 (to_be_bytes w32 n) (omega (arith, room))))
          m.1.chunks);
    },
  )
