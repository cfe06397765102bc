-- What a packet that was read is written in is bounded by the length of its bytes.
use Rattle.std.{proofs.Common.{◌≡◌, ℕ, ◌+◌, ◌-◌, ◌*◌, ◌≤◌, Bool, true, false, List, [], ◌∷◌, length, refl, sym, ap, subst, ◌∙◌, arith, ◌⊎◌, inl, inr, Ok, codes, length-drop}, specs.Str.{is_utf8, IsUtf8}, proofs.lemmas.Bool.Decides.{eqb_tells}, proofs.lemmas.Str.{IsUtf8-from_is_utf8, is_utf8-from_IsUtf8, IsUtf8-nil}}
use Rattle.dcsctp_tlv.{specs.Count.{total}, specs.Fault.{Fault}, specs.Frame.{Item, lenient, round_up_to_4}, specs.Image.{size_of, list_size}, specs.Level.{MeansTrees, map_ok}, specs.Table.{IsOneOf}, specs.Typed.{item_type}, proofs.Bounds.{padded_by, list_fits, Bounds, list_bound}, proofs.KindLaws.{of_map_ok, of_ok}}
use Rattle.dcsctp_cause.specs.Cause as cause
use Rattle.dcsctp_cause.{specs.Cause.{CauseTree, causes}, specs.Text.{text_or}, proofs.CauseLaws.{causes_account}}
use Rattle.dcsctp_wire.{specs.Canonical.{padded_size}, specs.Chunk.{ChunkTree, Abort, Error, chunks, chunk_row, HoldsCauses, tlv as chunk_tlv}, specs.Packet.{PacketTree, MeansPacket, body}, proofs.ChunkRows.{chunks_account}}

-- ---- causes: a text that isn't UTF-8 has at least one byte, and is replaced by at most 38

-- the size that a value of n bytes is written in
abbrev IsBounded : ℕ → ℕ → Type 0
IsBounded size n = (size ≤ 4 + n) ⊎ ((1 ≤ n) × (size ≤ 42))

abbrev cause_size : CauseTree → ℕ
cause_size t = size_of (cause.tlv t)

broken_text : (tree : List ℕ → CauseTree) (fixed value : List ℕ) (t : CauseTree)
    → ((x : List ℕ) → cause_size (tree x) ≡ 4 + length x) → length fixed ≤ 38
    → is_utf8 value ≡ false → map_ok {E = Fault} tree (Ok (text_or fixed value)) ≡ Ok t
    → cause_size t ≤ 42
broken_text tree fixed value t size few broken m =
    let x = of_map_ok tree (Ok (text_or fixed value)) t m in
    let is = of_ok (text_or fixed value) x.0 x.1.0 in
    let e : cause_size t ≡ 4 + length (text_or fixed value) =
    ap cause_size x.1.1 ∙ size x.0 ∙ ap (λ (y : List ℕ). 4 + length y) (sym is) in
    subst (λ (n : ℕ). n ≤ 42) (sym e) (rw broken (omega (arith, few)))

broken_cause : (code : ℕ) (value : List ℕ) (t : CauseTree) → is_utf8 value ≡ false
    → cause.HoldsText code → (cause.row code).means value t → cause_size t ≤ 42
broken_cause code value t broken (inl is) m =
    broken_text cause.UserInitiatedAbort (codes "Failed to parse abort reason") value t (λ x. refl)
    (omega arith) broken (subst (λ (c : ℕ). (cause.row c).means value t) is m)
broken_cause code value t broken (inr is) m =
    broken_text cause.ProtocolViolation (codes "Failed to parse additional information") value t
    (λ x. refl) (omega arith) broken (subst (λ (c : ℕ). (cause.row c).means value t) is m)

some_byte : (value : List ℕ) → is_utf8 value ≡ false → 1 ≤ length value
some_byte [] e = absurd (let p : true ≡ false = sym (is_utf8-from_IsUtf8 [] IsUtf8-nil) ∙ e in cc)
some_byte (x ∷ xs) e = omega arith

-- a number is one of the types, or none
one_of : (types : List ℕ) (n : ℕ) → IsOneOf types n ⊎ (¬ IsOneOf types n)
one_of [] n = inr (λ none. none)
one_of (x ∷ []) n = elim (eqb_tells n x) [ inl p ↦ inl p.1 | inr p ↦ inr p.1 ]
one_of (x ∷ y ∷ types) n = elim (eqb_tells n x) [
  | inl p ↦ inl (inl p.1)
  | inr p ↦ elim (one_of (y ∷ types) n) [
    | inl q ↦ inl (inr q)
    | inr q ↦ inr (λ is. elim is [ inl e ↦ p.1 e | inr e ↦ q e ])
  ]
]

cause_bounded : (i : Item) (t : CauseTree) → (cause.row (item_type i)).means i.value t
    → IsBounded (cause_size t) (length i.value)
cause_bounded i t m = by_text (is_utf8 i.value) refl where
  kept : (cause.HoldsText (item_type i) → IsUtf8 i.value)
      → IsBounded (cause_size t) (length i.value)
  kept k =
      let a = (causes_account.sized i t k m).at_most in inl (omega (arith, a))

  by_text : (b : Bool) → is_utf8 i.value ≡ b → IsBounded (cause_size t) (length i.value)
  by_text true e = kept (λ _. IsUtf8-from_is_utf8 i.value e)
  by_text false e = elim (one_of (12 ∷ 13 ∷ []) (item_type i)) [
    | inl is ↦ inr (some_byte i.value e, broken_cause (item_type i) i.value t e is m)
    | inr none ↦ kept (λ is. absurd (none is))
  ]

-- 44 bytes for the 8 that an item with a broken byte takes, or the 5 where it lacks its padding
causes_bound : Bounds (causes lenient) cause.tlv 14
causes_bound = record {
  padded = λ i t m. in_words (cause_size t) (length i.value) (cause_bounded i t m);
  alone = λ i t m. in_bytes (cause_size t) (length i.value) (cause_bounded i t m);
} where
  in_words : (h n : ℕ) → IsBounded h n → round_up_to_4 h ≤ 6 * round_up_to_4 (4 + n)
  in_words h n (inl le) = omega (arith, le)
  in_words h n (inr p) = let a = p.0 in let b = p.1 in omega (arith, a, b)

  in_bytes : (h n : ℕ) → IsBounded h n → round_up_to_4 h ≤ 6 * (4 + n) + 14
  in_bytes h n (inl le) = omega (arith, le)
  in_bytes h n (inr p) = let a = p.0 in let b = p.1 in omega (arith, a, b)

causes_fit : (value : List ℕ) (cs : List CauseTree) → MeansTrees (causes lenient) value cs
    → list_size cause.tlv cs ≤ 6 * length value + 14
causes_fit value cs m =
    let few = list_bound (causes lenient) cause.tlv 14 causes_bound value cs m in
    omega (arith, few, list_fits cause.tlv cs)

-- ---- chunks: the chunk's own header makes up for the padding that its last cause lacks

causes_chunk : (typ flags : ℕ) (value : List ℕ) (t : ChunkTree) → HoldsCauses typ
    → (chunk_row lenient typ flags).means value t
    → padded_by chunk_tlv t ≤ 6 * (4 + length value)
causes_chunk typ flags value t (inl is) m =
    let n = subst (λ (c : ℕ). (chunk_row lenient c flags).means value t) is m in
    let e = ap (padded_by chunk_tlv) (n.2 ∙ ap Abort n.1.1.2) in
    omega (arith, e, causes_fit value n.1.1.0 n.1.1.1)
causes_chunk typ flags value t (inr is) m =
    let n = subst (λ (c : ℕ). (chunk_row lenient c flags).means value t) is m in
    let e = ap (padded_by chunk_tlv) (n.2 ∙ ap Error n.1.1.2) in
    omega (arith, e, causes_fit value n.1.1.0 n.1.1.1)

chunk_bound : (i : Item) (t : ChunkTree) → (chunk_row lenient i.first i.second).means i.value t
    → padded_by chunk_tlv t ≤ 6 * (4 + length i.value)
chunk_bound i t m = elim (one_of (6 ∷ 9 ∷ []) i.first) [
  | inl is ↦ causes_chunk i.first i.second i.value t is m
  | inr none ↦ (let a = (chunks_account.sized i t (λ is. absurd (none is)) m).at_most in
      omega (arith, a))
]

chunks_bound : Bounds (chunks lenient) chunk_tlv 0
chunks_bound = record {
  padded = λ i t m. (let h = chunk_bound i t m in omega (arith, h));
  alone = λ i t m. (let h = chunk_bound i t m in omega (arith, h));
}

padded_size-total : (ts : List ChunkTree) → padded_size ts ≡ total (padded_by chunk_tlv) ts
padded_size-total [] = refl
padded_size-total (t ∷ ts) = ap (λ (n : ℕ). padded_by chunk_tlv t + n) (padded_size-total ts)

pub packet_bound : (bytes : List ℕ) (p : PacketTree) → MeansPacket lenient bytes p
    → padded_size p.meaning.chunks ≤ 6 * (length bytes - 12)
packet_bound bytes p m =
    let h = list_bound (chunks lenient) chunk_tlv 0 chunks_bound (body bytes) p.meaning.chunks
    m.chunks in
    let len = length-drop 12 bytes in
    omega (arith, h, len, padded_size-total p.meaning.chunks)
