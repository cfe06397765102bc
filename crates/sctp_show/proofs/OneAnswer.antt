-- An input has one answer.
use Rattle.std.proofs.Common.{◌≡◌, ℕ, Bool, List, ◌++◌, codes, Result, Ok, Err, IsErr, sym, subst, ap, ◌∙◌, arith}
use Rattle.hex.specs.declared.error.FromHexError.{FromHexError}
use Rattle.hex.proofs.HexLemmas.{decode_of-ok, decode_of-same}
use Rattle.dcsctp_wire.specs.Packet.{Meaning, PacketTree, PacketFault, Answer}
use Rattle.dcsctp_wire.specs.PacketText.{packet_text}
use Rattle.sctp_show.specs.Show.{CanonicalLine, fits, unfit, PacketText, Tells, Shows, too_long, not_hexadecimal, packet, unverified, without_blanks}
use Rattle.dcsctp_wire.proofs.Packets.{answer_one}

same_line : (m : Meaning) (a b : List ℕ) → CanonicalLine m a → CanonicalLine m b → a ≡ b
same_line m a b (fits h is) (fits k also) = is ∙ sym also
same_line m a b (fits h is) (unfit k also) = absurd (k h)
same_line m a b (unfit h is) (fits k also) = absurd (h k)
same_line m a b (unfit h is) (unfit k also) = is ∙ sym also

same_text : (p : PacketTree) (a b : List ℕ) → PacketText p a → PacketText p b → a ≡ b
same_text p a b (last, line, is) (also_last, also_line, also) =
    is ∙ ap (λ l. packet_text p ++ codes "\n" ++ l) (same_line p.meaning last also_last line
    also_line) ∙ sym also

same_told : (read : Result PacketTree PacketFault) (a b : List ℕ × ℕ) → Tells read a → Tells read b
    → a ≡ b
same_told (Ok p) a b (text, told, is) (also_text, also_told, also) =
    is ∙ ap (λ (l : List ℕ). (l, 0)) (same_text p text also_text told also_told) ∙ sym also
same_told (Err e) a b is also = is ∙ sym also

not_both : (decoded : Result (List ℕ) FromHexError) (bytes : List ℕ) → IsErr decoded
    → decoded ≡ Ok bytes → ⊥
not_both (Ok x) bytes bad is = cc bad
not_both (Err e) bytes bad is = cc is

pub Shows-one : (strict : Bool) (input : List ℕ) (a b : List ℕ × ℕ) → Shows strict input a
    → Shows strict input b → a ≡ b
Shows-one strict input a b (too_long long is) (too_long also_long also) = is ∙ sym also
Shows-one strict input a b (too_long long is) (not_hexadecimal short bad also) =
    absurd (omega arith)
Shows-one strict input a b (too_long long is) (packet short bytes decoded read answers told) =
    absurd (omega arith)
Shows-one strict input a b (not_hexadecimal short bad is) (too_long long also) =
    absurd (omega arith)
Shows-one strict input a b (not_hexadecimal short bad is) (not_hexadecimal also_short also_bad
    also) = is ∙ sym also
Shows-one strict input a b (not_hexadecimal short bad is) (packet also_short bytes decoded read
    answers told) = absurd (not_both _ bytes bad decoded)
Shows-one strict input a b (packet short bytes decoded read answers told) (too_long long also) =
    absurd (omega arith)
Shows-one strict input a b (packet short bytes decoded read answers told)
    (not_hexadecimal also_short bad also) = absurd (not_both _ bytes bad decoded)
Shows-one strict input a b (packet short bytes decoded read answers told)
    (packet also_short also_bytes also_decoded also_read also_answers also_told) =
    let same : also_bytes ≡ bytes =
    decode_of-same (without_blanks input) also_bytes bytes also_decoded decoded in
    let one : also_read ≡ read =
    answer_one bytes 0 (unverified strict) also_read read (decode_of-ok _ bytes decoded).3
    (subst (λ l. Answer l 0 (unverified strict) also_read) same also_answers) answers in
    same_told read a b told (subst (λ r. Tells r b) one also_told)
