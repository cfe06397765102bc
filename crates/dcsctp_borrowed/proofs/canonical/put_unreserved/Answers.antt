use Rattle.std.proofs.Common.{◌≡◌, ◌+◌, ◌-◌, ◌∙◌, ℕ, List, [], ◌∷◌, length, take, drop, arith, ap, ap₂, length-append}
use Rattle.dcsctp_tlv.specs.Image.{put}
use Rattle.dcsctp_borrowed.{proofs.PutsRewritten.{rest_is, front_is, back_is, three_parts}}
use Rattle.dcsctp_borrowed.proofs.canonical.put_unreserved.Goals as goal

pub returns : goal.returns
returns c =
    let value = c.args.value.now in
    let k = c.min.result in
    let j = c.min-2.result in
    let front : take k value ≡ take 6 value = front_is 6 k value c.min.ensures in
    let back : take (length value - j) (drop j value) ≡ drop 8 value =
    rest_is j value ∙ back_is 8 j value c.min-2.ensures in
    let size = ap length front in
    let rest = ap length back in
    let all = length-append (take 6 value) (0 ∷ 0 ∷ drop 8 value) in
    c.put_bytes-3.ensures
    ∙ ap₂ (λ (out bytes : List ℕ). put out (4 + length (take k value) + 2) bytes)
    (c.put_bytes-2.ensures
    ∙ ap (λ (out : List ℕ). put out (4 + length (take k value)) (0 ∷ 0 ∷ []))
    (c.put_bytes.ensures ∙ ap (put c.put_header.new.output 4) front)) back
    ∙ three_parts c.args.first c.args.second c.args.output.now c.put_header.new.output
    (length (take k value) + 2 + length (take (length value - j) (drop j value)))
    c.put_header.ensures (take 6 value)
    (0 ∷ 0 ∷ []) (drop 8 value) _ _ (omega (arith, size)) (omega (arith, size))
    (omega (arith, size, rest, all)) (omega (arith, c.requires.room))
