-- An AUTH chunk that was signed is the same but for its HMAC, and that is right.
use Rattle.std.proofs.Common.{◌≡◌, ◌∙◌, ℕ, ◌+◌, ◌-◌, ◌≤◌, List, ◌++◌, length, get_or, take, drop, replicate, refl, sym, ap, arith, append_assoc, length-append, length-take, length-drop, drop-drop, take_at, drop_at}
use Rattle.std.proofs.lemmas.List.{drop-take, take-take, take_rest, get_or-take}
use Rattle.std.specs.Int.{w16, from_be_bytes}
use Rattle.dcsctp_tlv.specs.{Image.{put}, Number.{number16}}
use Rattle.dcsctp_receive.specs.declared.auth.TheConstants.{ZEROS}
use Rattle.dcsctp_receive.specs.declared.hmac.{HashFunction.{HashFunction}, HashFunction.TheVariants.{Sha1, Sha256}}
use Rattle.dcsctp_receive.specs.Hmac.{digest_size, hmac}
use Rattle.dcsctp_receive.specs.Auth.{BeginsWithAuth, IsSigned, auth_data, hmac_field}
use Rattle.dcsctp_receive.proofs.Hmacs.{length-hmac}

-- ---- what the HMAC is computed over

zeros_are : (function : HashFunction) → take (digest_size function) ZEROS
    ≡ replicate (digest_size function) 0
zeros_are Sha1 = refl
zeros_are Sha256 = refl

pub data_is : (function : HashFunction) (size : ℕ) (bytes : List ℕ) → size ≡ digest_size function
    → (take 8 bytes ++ take size ZEROS)
    ++ take (length bytes - (8 + size)) (drop (8 + size) bytes) ≡ auth_data function bytes
data_is function size bytes is =
    (λ i. (take 8 bytes ++ take (is i) ZEROS)
    ++ take (length bytes - (8 + is i)) (drop (8 + is i) bytes))
    ∙ (λ i. (take 8 bytes ++ zeros_are function i)
    ++ take_rest bytes (8 + digest_size function) i)
    ∙ append_assoc (take 8 bytes) (replicate (digest_size function) 0)
    (drop (8 + digest_size function) bytes)

-- ---- an HMAC in its field

within : (n m : ℕ) (xs ys : List ℕ) → take (n + m) xs ≡ take (n + m) ys → 2 ≤ m
    → number16 (drop n xs) ≡ number16 (drop n ys)
within n m xs ys same room =
    let front : (zs : List ℕ) → take 2 (drop n (take (n + m) zs)) ≡ take 2 (drop n zs) =
    λ zs. ap (take 2) (drop-take n m zs) ∙ take-take 2 m (drop n zs) room in
    ap (from_be_bytes w16) (sym (front xs) ∙ ap (λ zs. take 2 (drop n zs)) same ∙ front ys)

pub signed : (function : HashFunction) (key bytes mac : List ℕ) → BeginsWithAuth function bytes
    → mac ≡ hmac function key (auth_data function bytes)
    → IsSigned function key (put bytes 8 mac)
signed function key bytes mac begins is =
    let size = digest_size function in
    let out = put bytes 8 mac in
    let rest = drop (8 + length mac) bytes in
    let long : length mac ≡ size =
    ap length is ∙ length-hmac function key (auth_data function bytes) in
    let eight : length (take 8 bytes) ≡ 8 = omega (arith, length-take 8 bytes, begins.size) in
    let front : take 8 out ≡ take 8 bytes = take_at (take 8 bytes) (mac ++ rest) 8 eight in
    let after : drop 8 out ≡ mac ++ rest = drop_at (take 8 bytes) (mac ++ rest) 8 eight in
    let last : drop (8 + size) out ≡ drop (8 + size) bytes =
    sym (drop-drop size 8 out) ∙ ap (drop size) after ∙ drop_at mac rest size long
    ∙ ap (λ n. drop (8 + n) bytes) long in
    let field : hmac_field function out ≡ mac =
    ap (take size) after ∙ take_at mac rest size long in
    let same : auth_data function out ≡ auth_data function bytes =
    λ i. front i ++ (replicate size 0 ++ last i) in
    record {
      auth = record {
        size = omega (
          arith,
          begins.size,
          long,
          eight,
          length-append (take 8 bytes) (mac ++ rest),
          length-append mac rest,
          length-drop (8 + length mac) bytes,
        );
        typ = sym (get_or-take 8 out 0 0 (omega arith)) ∙ ap (λ zs. get_or zs 0 0) front
            ∙ get_or-take 8 bytes 0 0 (omega arith) ∙ begins.typ;
        chunk_length = within 2 6 out bytes front (omega arith) ∙ begins.chunk_length;
        identifier = within 6 2 out bytes front (omega arith) ∙ begins.identifier;
      };
      right = field ∙ is ∙ ap (hmac function key) (sym same);
    }
