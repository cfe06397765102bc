-- A packet that was put together is read as one.
use Rattle.std.proofs.Common.{◌≡◌, ◌+◌, ◌-◌, ◌<◌, ◌^◌, ◌==◌, ℕ, true, false, nat_lt, List, [], ◌∷◌, ◌++◌, length, drop, Ok, refl, ap, ◌∙◌, append_assoc, arith}
use Rattle.std.specs.Int.{w16, to_be_bytes}
use Rattle.std.proofs.lemmas.Bool.Decides.{nat_tests}
use Rattle.std.proofs.lemmas.Nat.{from_be_bytes-to_be_bytes_2}
use Rattle.dump_capture.specs.Frame.{ip, ipv4, may_carry_sctp, on_link, in_frame, past_header}
use Rattle.dump_capture.specs.Number.{number16}
use Rattle.dump_capture.specs.Reassembly.{ip_header, carried_by}
use Rattle.dump_capture.specs.declared.frame.Addresses.TheVariants.{V4, V6}
use Rattle.dump_capture.proofs.Sent.{four, in_ipv6}

in_joined_ipv4 : (a b c d p q r s protocol checksum original : ℕ) (bytes : List ℕ)
    → 20 + length bytes < 2 ^ 16 → may_carry_sctp protocol ≡ true
    → past_header (in_frame 101 original (ip_header
    (V4 (a ∷ b ∷ c ∷ d ∷ []) (p ∷ q ∷ r ∷ s ∷ [])) protocol (length bytes) checksum ++ bytes))
    ≡ Ok (carried_by (V4 (a ∷ b ∷ c ∷ d ∷ []) (p ∷ q ∷ r ∷ s ∷ [])) protocol bytes)
unfolding on_link ip ipv4
in_joined_ipv4 a b c d p q r s protocol checksum original bytes fits carries =
    let size = length bytes in
    let frame = ip_header (V4 (a ∷ b ∷ c ∷ d ∷ []) (p ∷ q ∷ r ∷ s ∷ [])) protocol size checksum ++
    bytes in
    let some : (length frame == 0) ≡ false = grind (arith, nat_tests) in
    let enough : nat_lt (length frame) 20 ≡ false = grind (arith, nat_tests) in
    let total : number16 (drop 2 frame) ≡ 20 + size = from_be_bytes-to_be_bytes_2 (20 + size) fits
    in
    let stated : (20 + size == 0) ≡ false = grind (arith, nat_tests) in
    let holds : nat_lt (20 + size) 20 ≡ false = grind (arith, nat_tests) in
    let left : (20 + size) - 20 ≡ size = omega arith in
    rw (some, enough, carries, total, stated, holds, left) refl

pub joined_ipv4 : (source destination bytes : List ℕ) (protocol checksum original : ℕ)
    → length source ≡ 4 → length destination ≡ 4 → 20 + length bytes < 2 ^ 16
    → may_carry_sctp protocol ≡ true
    → past_header (in_frame 101 original
    (ip_header (V4 source destination) protocol (length bytes) checksum ++ bytes))
    ≡ Ok (carried_by (V4 source destination) protocol bytes)
joined_ipv4 source destination bytes protocol checksum original of_source of_destination fits
    carries =
    let s = four source of_source in
    let d = four destination of_destination in
    rw (s.is, d.is) (in_joined_ipv4 s.a s.b s.c s.d d.a d.b d.c d.d protocol checksum original
    bytes fits carries)

pub joined_ipv6 : (source destination bytes : List ℕ) (protocol checksum original : ℕ)
    → length source ≡ 16 → length destination ≡ 16 → length bytes < 2 ^ 16
    → past_header (in_frame 101 original
    (ip_header (V6 source destination) protocol (length bytes) checksum ++ bytes))
    ≡ Ok (carried_by (V6 source destination) protocol bytes)
joined_ipv6 source destination bytes protocol checksum original of_source of_destination fits =
    let front = (0x60 ∷ 0 ∷ 0 ∷ 0 ∷ []) ++ to_be_bytes w16 (length bytes) ++ (protocol ∷ 64 ∷ []) in
    ap (λ (x : List ℕ). past_header (in_frame 101 original x))
    (append_assoc (front ++ source) destination bytes
    ∙ append_assoc front source (destination ++ bytes))
    ∙ in_ipv6 source destination bytes protocol 64 original (length bytes) of_source
    of_destination fits
