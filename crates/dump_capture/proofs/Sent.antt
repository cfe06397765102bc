-- A packet that was sent is found.
use Rattle.std.proofs.Common.{◌≡◌, ◌+◌, ◌-◌, ◌<◌, ◌^◌, ◌==◌, ℕ, false, nat_lt, List, [], ◌∷◌, ◌++◌, length, take, drop, Some, None, Ok, refl, ap, sym, ◌∙◌, arith}
use Rattle.std.specs.Int.{w16, to_be_bytes}
use Rattle.std.proofs.lemmas.Bool.Decides.{nat_tests}
use Rattle.std.proofs.lemmas.List.{length-append, take_at, drop_at, drop-drop}
use Rattle.std.proofs.lemmas.Nat.{from_be_bytes-to_be_bytes_2}
use Rattle.dump_capture.specs.Payload.{Payload}
use Rattle.dump_capture.specs.Frame.{ip, ipv4, ipv6, may_carry_sctp, on_link, in_frame, packet_in}
use Rattle.dump_capture.specs.Number.{number16}
use Rattle.dump_capture.specs.Sent.{Ipv4Fields, ipv4_packet, ipv6_packet}
use Rattle.dump_capture.specs.declared.frame.Addresses.{Addresses}
use Rattle.dump_capture.specs.declared.frame.Addresses.TheVariants.{V4, V6}
use Rattle.dump_capture.specs.declared.payload.Protocol.TheVariants.{Number}
use Rattle.dump_capture.proofs.Headers.{past_one}

-- what an IP packet with this protocol carries
abbrev pub carried_as : Addresses → ℕ → ℕ → List ℕ → Payload
carried_as addresses protocol size bytes = record {
  addresses = Some addresses;
  protocol = Number protocol;
  size = size;
  bytes = bytes;
}

abbrev carried_in : Addresses → ℕ → List ℕ → Payload
carried_in addresses size bytes = carried_as addresses 132 size bytes

in_ipv4 : (f : Ipv4Fields) (a b c d p q r s original size : ℕ) (bytes : List ℕ) → 20 + size < 2 ^ 16
    → on_link 101 (in_frame 101 original
    (ipv4_packet f size (a ∷ b ∷ c ∷ d ∷ []) (p ∷ q ∷ r ∷ s ∷ []) bytes))
    ≡ Ok (carried_in (V4 (a ∷ b ∷ c ∷ d ∷ []) (p ∷ q ∷ r ∷ s ∷ [])) size bytes)
unfolding on_link ip ipv4 may_carry_sctp
in_ipv4 f a b c d p q r s original size bytes fits =
    let frame = ipv4_packet f size (a ∷ b ∷ c ∷ d ∷ []) (p ∷ q ∷ r ∷ s ∷ []) bytes in
    let some : (length frame == 0) ≡ false = grind (arith, nat_tests) in
    let enough : nat_lt (length frame) 20 ≡ false = grind (arith, nat_tests) in
    let total : number16 (drop 2 frame) ≡ 20 + size = from_be_bytes-to_be_bytes_2 (20 + size) fits
    in
    let stated : (20 + size == 0) ≡ false = grind (arith, nat_tests) in
    let holds : nat_lt (20 + size) 20 ≡ false = grind (arith, nat_tests) in
    let left : (20 + size) - 20 ≡ size = omega arith in
    rw (some, enough, total, stated, holds, left) refl

-- a list of four
pub record Four (xs : List ℕ) : Type 0 where
  pub a : ℕ
  pub b : ℕ
  pub c : ℕ
  pub d : ℕ
  pub is : xs ≡ a ∷ b ∷ c ∷ d ∷ []

pub four : (xs : List ℕ) → length xs ≡ 4 → Four xs
four [] e = absurd (omega arith)
four (a ∷ []) e = absurd (omega arith)
four (a ∷ b ∷ []) e = absurd (omega arith)
four (a ∷ b ∷ c ∷ []) e = absurd (omega arith)
four (a ∷ b ∷ c ∷ d ∷ []) e = record { a = a; b = b; c = c; d = d; is = refl }
four (a ∷ b ∷ c ∷ d ∷ x ∷ xs) e = absurd (omega arith)

pub sent_found : (f : Ipv4Fields) (source destination bytes : List ℕ) (port original size : ℕ)
    → length source ≡ 4 → length destination ≡ 4
    → 20 + size < 2 ^ 16
    → packet_in port 101 original (ipv4_packet f size source destination bytes)
    ≡ Ok (record {
      addresses = Some (V4 source destination);
      udp_ports = None;
      length = size;
      bytes = take size bytes;
    })
sent_found f source destination bytes port original size of_source of_destination fits =
    let s = four source of_source in
    let d = four destination of_destination in
    rw (s.is, d.is) (past_one port 101 original
    (ipv4_packet f size (s.a ∷ s.b ∷ s.c ∷ s.d ∷ []) (d.a ∷ d.b ∷ d.c ∷ d.d ∷ []) bytes)
    (carried_in (V4 (s.a ∷ s.b ∷ s.c ∷ s.d ∷ []) (d.a ∷ d.b ∷ d.c ∷ d.d ∷ [])) size bytes)
    (in_ipv4 f s.a s.b s.c s.d d.a d.b d.c d.d original size bytes fits) refl refl)

pub in_ipv6 : (source destination bytes : List ℕ) (protocol hop_limit original size : ℕ)
    → length source ≡ 16 → length destination ≡ 16 → size < 2 ^ 16
    → on_link 101 (in_frame 101 original (((0x60 ∷ 0 ∷ 0 ∷ 0 ∷ [])
    ++ to_be_bytes w16 size ++ (protocol ∷ hop_limit ∷ []))
    ++ (source ++ (destination ++ bytes))))
    ≡ Ok (carried_as (V6 source destination) protocol size bytes)
unfolding on_link ip ipv6
in_ipv6 source destination bytes protocol hop_limit original size of_source of_destination fits =
    let tail = source ++ (destination ++ bytes) in
    let after_source : drop 16 tail ≡ destination ++ bytes =
    drop_at source (destination ++ bytes) 16 of_source in
    let first : take 16 tail ≡ source = take_at source (destination ++ bytes) 16 of_source in
    let second : take 16 (drop 16 tail) ≡ destination = ap (λ (x : List ℕ). take 16 x) after_source
    ∙ take_at destination bytes 16 of_destination in
    let third : drop 32 tail ≡ bytes = sym (drop-drop 16 16 tail)
    ∙ ap (λ (x : List ℕ). drop 16 x) after_source
    ∙ drop_at destination bytes 16 of_destination in
    let sizes : length tail ≡ 32 + length bytes =
    length-append source (destination ++ bytes)
    ∙ ap (λ (n : ℕ). n + length (destination ++ bytes)) of_source
    ∙ ap (λ (n : ℕ). 16 + n) (length-append destination bytes) ∙ grind arith in
    let head = λ (x : List ℕ). ((0x60 ∷ 0 ∷ 0 ∷ 0 ∷ []) ++ to_be_bytes w16 size
    ++ (protocol ∷ hop_limit ∷ [])) ++ x in
    let some : (length (head tail) == 0) ≡ false = grind (arith, nat_tests) in
    let enough : nat_lt (length (head tail)) 40 ≡ false = grind (arith, nat_tests) in
    let stated : number16 (drop 4 (head tail)) ≡ size = from_be_bytes-to_be_bytes_2 size fits in
    rw (some, enough, stated, first, second, third) refl

pub sent_found_ipv6 : (source destination bytes : List ℕ) (hop_limit port original size : ℕ)
    → length source ≡ 16 → length destination ≡ 16
    → size < 2 ^ 16
    → packet_in port 101 original (ipv6_packet hop_limit size source destination bytes)
    ≡ Ok (record {
      addresses = Some (V6 source destination);
      udp_ports = None;
      length = size;
      bytes = take size bytes;
    })
sent_found_ipv6 source destination bytes hop_limit port original size of_source of_dest fits =
    past_one port 101 original (ipv6_packet hop_limit size source destination bytes)
    (carried_in (V6 source destination) size bytes)
    (in_ipv6 source destination bytes 132 hop_limit original size of_source of_dest fits) refl refl
