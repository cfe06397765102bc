-- Each input has an answer.
use Rattle.std.proofs.Common.{◌≡◌, ◌≤◌, ℕ, Bool, List, length, Result, Ok, Err, refl, inl, inr}
use Rattle.std.proofs.lemmas.Bool.{cases_lt}
use Rattle.hex.specs.Hex.{decode_of}
use Rattle.hex.specs.declared.error.FromHexError.{FromHexError}
use Rattle.hex.proofs.HexLemmas.{decode_of-ok}
use Rattle.dcsctp_wire.specs.Packet.{Meaning, PacketTree, PacketFault}
use Rattle.dcsctp_wire.proofs.Packets.{answer_some}
use Rattle.dcsctp_wire.proofs.Fitting.{fits_tells}
use Rattle.sctp_show.specs.Show.{CanonicalLine, fits, unfit, Tells, Shows, too_long, not_hexadecimal, packet, unverified, without_blanks}

last_line : (m : Meaning) → (line : List ℕ) × CanonicalLine m line
last_line m = elim (fits_tells m) [ inl h ↦ (_, fits h refl) | inr h ↦ (_, unfit h refl) ]

told : (read : Result PacketTree PacketFault) → (answer : List ℕ × ℕ) × Tells read answer
told (Ok p) = let last = last_line p.meaning in (_, (_, (last.0, last.1, refl), refl))
told (Err e) = (_, refl)

pub Shows-some : (strict : Bool) (input : List ℕ) → (answer : List ℕ × ℕ)
    × Shows strict input answer
Shows-some strict input = elim (cases_lt 200000 (length input)) [
  | inl long ↦ (_, too_long long refl)
  | inr short ↦ decoded short (decode_of (without_blanks input)) refl
] where
  decoded : length input ≤ 200000 → (result : Result (List ℕ) FromHexError)
      → decode_of (without_blanks input) ≡ result → (answer : List ℕ × ℕ)
      × Shows strict input answer
  decoded short (Err e) is = (_, not_hexadecimal short (rw is refl) refl)
  decoded short (Ok bytes) is =
      let read = answer_some bytes 0 (unverified strict) (decode_of-ok _ bytes is).3 in
      let answer = told read.0 in
      (answer.0, packet short bytes is read.0 read.1 answer.1)
