-- A cookie reads as what was written, and what was read is written as it was.
use Rattle.std.proofs.Common.{◌≡◌, ◌∙◌, ℕ, ◌+◌, ◌-◌, ◌≤◌, List, ◌++◌, length, take, drop, refl, sym, ap, arith, inl, inr, length-take, length-drop, drop-drop, get_or-drop, length-append, take_at, drop_at}
use Rattle.std.proofs.lemmas.Bool.{cases_lt}
use Rattle.std.proofs.lemmas.List.{take-append-drop, take_rest, get_or-take, get_or_past}
use Rattle.std.proofs.lemmas.Nat.{from_be_bytes-to_be_bytes_2, from_be_bytes-to_be_bytes_4, from_be_bytes-to_be_bytes_8, be_bytes_2, be_bytes_4, be_bytes_8}
use Rattle.std.specs.Int.{w16, w32, w64, to_be_bytes}
use Rattle.dcsctp_tlv.specs.Number.{AreBytes, number16, number32, number64}
use Rattle.dcsctp_receive.proofs.Hmacs.{length-hmac}
use Rattle.dcsctp_receive.specs.declared.hmac.HashFunction.TheVariants.{Sha256}
use Rattle.dcsctp_receive.specs.Hmac.{hmac}
use Rattle.dcsctp_receive.specs.Cookie.{CookieTree, IsInWidth, fixed_bytes, body, body_read, cookie_bytes, IsAuthentic}

pub read_of_written : (c : CookieTree) → IsInWidth c → body_read (body c) ≡ c
read_of_written c fits = λ i.
    record {
      created = from_be_bytes-to_be_bytes_8 c.created fits.created i;
      lifespan = from_be_bytes-to_be_bytes_8 c.lifespan fits.lifespan i;
      local_tag = from_be_bytes-to_be_bytes_4 c.local_tag fits.local_tag i;
      peer_tag = from_be_bytes-to_be_bytes_4 c.peer_tag fits.peer_tag i;
      local_tie_tag = from_be_bytes-to_be_bytes_4 c.local_tie_tag fits.local_tie_tag i;
      peer_tie_tag = from_be_bytes-to_be_bytes_4 c.peer_tie_tag fits.peer_tie_tag i;
      local_initial_tsn = from_be_bytes-to_be_bytes_4 c.local_initial_tsn fits.local_initial_tsn i;
      peer_initial_tsn = from_be_bytes-to_be_bytes_4 c.peer_initial_tsn fits.peer_initial_tsn i;
      local_port = from_be_bytes-to_be_bytes_2 c.local_port fits.local_port i;
      peer_port = from_be_bytes-to_be_bytes_2 c.peer_port fits.peer_port i;
      outbound_streams = from_be_bytes-to_be_bytes_2 c.outbound_streams fits.outbound_streams i;
      inbound_streams = from_be_bytes-to_be_bytes_2 c.inbound_streams fits.inbound_streams i;
      extra = c.extra;
    }

-- ---- what was read is written as it was

-- the bytes after place n: those of a number, and the rest
split_at : (n k : ℕ) (bytes : List ℕ) → take k (drop n bytes) ++ drop (n + k) bytes ≡ drop n bytes
split_at n k bytes =
    ap (λ rest. take k (drop n bytes) ++ rest) (sym (drop-drop k n bytes))
    ∙ take-append-drop k (drop n bytes)

are_bytes : (n k : ℕ) (bytes : List ℕ) → AreBytes bytes → AreBytes (take k (drop n bytes))
are_bytes n k bytes fits i = elim (cases_lt i k) [
  | inl lt ↦ rw (get_or-take k (drop n bytes) i 0 lt, get_or-drop) (fits (n + i))
  | inr le ↦ rw (get_or_past (take k (drop n bytes)) i 0
      (omega (arith, length-take k (drop n bytes)))) (omega arith)
]

length_at : (n k : ℕ) (bytes : List ℕ) → n + k ≤ length bytes
    → length (take k (drop n bytes)) ≡ k
length_at n k bytes size = omega (arith, length-take k (drop n bytes), length-drop n bytes)

again_8 : (n : ℕ) (bytes : List ℕ) → AreBytes bytes → n + 8 ≤ length bytes
    → to_be_bytes w64 (number64 (drop n bytes)) ++ drop (n + 8) bytes ≡ drop n bytes
again_8 n bytes fits size =
    ap (λ front. front ++ drop (n + 8) bytes)
    (be_bytes_8 (take 8 (drop n bytes)) (number64 (drop n bytes)) (length_at n 8 bytes size)
    (are_bytes n 8 bytes fits) refl)
    ∙ split_at n 8 bytes

again_4 : (n : ℕ) (bytes : List ℕ) → AreBytes bytes → n + 4 ≤ length bytes
    → to_be_bytes w32 (number32 (drop n bytes)) ++ drop (n + 4) bytes ≡ drop n bytes
again_4 n bytes fits size =
    ap (λ front. front ++ drop (n + 4) bytes)
    (be_bytes_4 (take 4 (drop n bytes)) (number32 (drop n bytes)) (length_at n 4 bytes size)
    (are_bytes n 4 bytes fits) refl)
    ∙ split_at n 4 bytes

again_2 : (n : ℕ) (bytes : List ℕ) → AreBytes bytes → n + 2 ≤ length bytes
    → to_be_bytes w16 (number16 (drop n bytes)) ++ drop (n + 2) bytes ≡ drop n bytes
again_2 n bytes fits size =
    ap (λ front. front ++ drop (n + 2) bytes)
    (be_bytes_2 (take 2 (drop n bytes)) (number16 (drop n bytes)) (length_at n 2 bytes size)
    (are_bytes n 2 bytes fits) refl)
    ∙ split_at n 2 bytes

pub written_of_read : (bytes : List ℕ) → AreBytes bytes → 48 ≤ length bytes
    → body (body_read bytes) ≡ bytes
written_of_read bytes fits size =
    let at_0 = to_be_bytes w64 (number64 bytes) in
    let at_8 = to_be_bytes w64 (number64 (drop 8 bytes)) in
    let at_16 = to_be_bytes w32 (number32 (drop 16 bytes)) in
    let at_20 = to_be_bytes w32 (number32 (drop 20 bytes)) in
    let at_24 = to_be_bytes w32 (number32 (drop 24 bytes)) in
    let at_28 = to_be_bytes w32 (number32 (drop 28 bytes)) in
    let at_32 = to_be_bytes w32 (number32 (drop 32 bytes)) in
    let at_36 = to_be_bytes w32 (number32 (drop 36 bytes)) in
    let at_40 = to_be_bytes w16 (number16 (drop 40 bytes)) in
    let at_42 = to_be_bytes w16 (number16 (drop 42 bytes)) in
    let at_44 = to_be_bytes w16 (number16 (drop 44 bytes)) in
    let to_8 : List ℕ → List ℕ = λ rest. at_0 ++ rest in
    let to_16 : List ℕ → List ℕ = λ rest. to_8 (at_8 ++ rest) in
    let to_20 : List ℕ → List ℕ = λ rest. to_16 (at_16 ++ rest) in
    let to_24 : List ℕ → List ℕ = λ rest. to_20 (at_20 ++ rest) in
    let to_28 : List ℕ → List ℕ = λ rest. to_24 (at_24 ++ rest) in
    let to_32 : List ℕ → List ℕ = λ rest. to_28 (at_28 ++ rest) in
    let to_36 : List ℕ → List ℕ = λ rest. to_32 (at_32 ++ rest) in
    let to_40 : List ℕ → List ℕ = λ rest. to_36 (at_36 ++ rest) in
    let to_42 : List ℕ → List ℕ = λ rest. to_40 (at_40 ++ rest) in
    let to_44 : List ℕ → List ℕ = λ rest. to_42 (at_42 ++ rest) in
    let to_46 : List ℕ → List ℕ = λ rest. to_44 (at_44 ++ rest) in
    ap to_46 (again_2 46 bytes fits (omega arith))
    ∙ ap to_44 (again_2 44 bytes fits (omega arith))
    ∙ ap to_42 (again_2 42 bytes fits (omega arith))
    ∙ ap to_40 (again_2 40 bytes fits (omega arith))
    ∙ ap to_36 (again_4 36 bytes fits (omega arith))
    ∙ ap to_32 (again_4 32 bytes fits (omega arith))
    ∙ ap to_28 (again_4 28 bytes fits (omega arith))
    ∙ ap to_24 (again_4 24 bytes fits (omega arith))
    ∙ ap to_20 (again_4 20 bytes fits (omega arith))
    ∙ ap to_16 (again_4 16 bytes fits (omega arith))
    ∙ ap to_8 (again_8 8 bytes fits (omega arith))
    ∙ again_8 0 bytes fits (omega arith)

-- ---- the MAC at the front

-- bytes that begin with their MAC are those of a cookie
pub authentic_is_cookie : (key bytes : List ℕ) → AreBytes bytes → 80 ≤ length bytes
    → IsAuthentic key bytes → bytes ≡ cookie_bytes key (body_read (drop 32 bytes))
authentic_is_cookie key bytes fits size authentic =
    let rest = drop 32 bytes in
    let same : body (body_read rest) ≡ rest =
    written_of_read rest (λ k. rw get_or-drop (fits (32 + k)))
    (omega (arith, length-drop 32 bytes)) in
    sym (take-append-drop 32 bytes) ∙ ap (λ front. front ++ rest) authentic
    ∙ ap (λ text. hmac Sha256 key text ++ text) (sym same)

pub record IsSealed (key : List ℕ) (c : CookieTree) (bytes : List ℕ) : Type 0 where
  pub size : 80 ≤ length bytes
  pub authentic : IsAuthentic key bytes
  pub rest : drop 32 bytes ≡ body c

pub cookie_is_sealed : (key : List ℕ) (c : CookieTree) (bytes : List ℕ)
    → bytes ≡ cookie_bytes key c → IsSealed key c bytes
cookie_is_sealed key c bytes is =
    let mac = hmac Sha256 key (body c) in
    let long : length mac ≡ 32 = length-hmac Sha256 key (body c) in
    let rest : drop 32 bytes ≡ body c = ap (drop 32) is ∙ drop_at mac (body c) 32 long in
    record {
      size = omega (
        arith,
        ap length is,
        length-append mac (body c),
        length-append (fixed_bytes c)
            c.extra,
        long,
      );
      authentic = ap (take 32) is ∙ take_at mac (body c) 32 long
          ∙ ap (hmac Sha256 key) (sym rest);
      rest = rest;
    }

-- what was read of a cookie is what was written
pub same_cookie : (key : List ℕ) (c t : CookieTree) (bytes : List ℕ) → IsInWidth c
    → bytes ≡ cookie_bytes key c → t ≡ body_read (take (length bytes - 32) (drop 32 bytes)) → t ≡ c
same_cookie key c t bytes fits is read =
    read ∙ ap body_read (take_rest bytes 32 ∙ (cookie_is_sealed key c bytes is).rest)
    ∙ read_of_written c fits

pub was_sealed : (key bytes : List ℕ) (t : CookieTree) → AreBytes bytes
    → (80 ≤ length bytes) × IsAuthentic key bytes
    → t ≡ body_read (take (length bytes - 32) (drop 32 bytes)) → bytes ≡ cookie_bytes key t
was_sealed key bytes t fits sealed read =
    authentic_is_cookie key bytes fits sealed.0 sealed.1
    ∙ ap (cookie_bytes key) (sym (read ∙ ap body_read (take_rest bytes 32)))
