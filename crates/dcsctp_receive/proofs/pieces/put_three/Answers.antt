use Rattle.std.proofs.Common.{◌≡◌, ◌∙◌, ◌+◌, ◌++◌, ◌≤◌, ℕ, List, length, ap, append_assoc, length-append, arith}
use Rattle.dcsctp_tlv.specs.Image.{put}
use Rattle.dcsctp_tlv.proofs.Puts.{put-put}
use Rattle.dcsctp_receive.proofs.pieces.put_three.Goals as goal

three_put : (old a b c : List ℕ) → length a + length b + length c ≤ length old
    → put (put (put old 0 a) (length a) b) (length a + length b) c ≡ put old 0 (a ++ (b ++ c))
three_put old a b c room =
    ap (λ out. put out (length a + length b) c)
    (put-put old 0 (length a) a b (omega arith) (omega arith))
    ∙ put-put old 0 (length a + length b) (a ++ b) c (omega arith)
    (omega (arith, length-append a b))
    ∙ ap (put old 0) (append_assoc a b c)

pub returns : goal.returns
returns c =
    let first = c.args.first.now in
    let second = c.args.second.now in
    let third = c.args.third.now in
    c.put_bytes-3.ensures
    ∙ ap (λ out. put out (length first + length second) third) (c.put_bytes-2.ensures
    ∙ ap (λ out. put out (length first) second) c.put_bytes.ensures)
    ∙ three_put c.args.output.now first second third c.requires
