use Rattle.std.proofs.Common.{◌≡◌, ◌<◌, ◌++◌, ℕ, List, length, map, get_or, ap, ◌∙◌, arith}
use Rattle.std.proofs.lemmas.Grind.{common_steps}
use Rattle.dump_capture.specs.Reassembly.{joined, kept, ip_header}
use Rattle.dump_capture.proofs.Kept.{is_joined}
use Rattle.dump_capture.proofs.reassembly.PartialPacket.join.Goals as goal

pub returns : goal.returns
returns c = λ fs all.
    let key = c.args.self.now.key in
    let xs = c.args.self.now.fragments.items in
    let x = c.index.result.now in
    let some : 0 < length xs = grind (arith, common_steps) in
    let first : x ≡ get_or xs 0 x = c.index.ensures in
    let number : c.len.result ≡ length xs = grind (arith, common_steps) in
    let checksum = c.in_ok-bytes.ensures.0 in
    is_joined fs key xs x checksum c.len.result c.push_data.new.bytes.items all.known c.requires.whole some first number
    (c.in_ok-push_data.ensures ∙ ap (λ (h : List ℕ). h ++ joined (map (kept key) xs))
    (c.in_ok-bytes.ensures.1
    ∙ ap (λ (n : ℕ). ip_header key.addresses x.protocol n checksum) c.requires.size))
