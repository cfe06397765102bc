use Rattle.std.proofs.Common.{◌≡◌, ◌<◌, ℕ, List, ◌++◌, length, map, take, get_or, ap, sym, ◌∙◌, append_assoc, arith}
use Rattle.dump_capture.specs.Reassembly.{joined, kept}
use Rattle.dump_capture.specs.declared.reassembly.KeptFragment.{KeptFragment}
use Rattle.dump_capture.proofs.Kept.{joined-more}
use Rattle.dump_capture.proofs.reassembly.PartialPacket.push_data.Goals as goal

pub loop-kept-preserved : goal.loop-kept-preserved
loop-kept-preserved c =
    let key = c.args.self.now.key in
    let xs = c.args.self.now.fragments.items in
    let x = c.kept-item.result in
    let i = c.loop-kept.kept-index in
    let below : i < length xs = omega (arith, ap length c.deref-kept-items.ensures.value) in
    let is : x ≡ get_or xs i x = c.kept-item.is
    ∙ ap (λ (ys : List KeptFragment). get_or ys i x) c.deref-kept-items.ensures.value in
    let more = joined-more key xs i x below is in
    let before = c.args.bytes.now.items in
    c.in_ok-extend_from_slice.ensures.items
    ∙ ap (λ (s : List ℕ). c.loop-kept.bytes.items ++ s) c.as_slice.ensures.value
    ∙ ap (λ (b : List ℕ). b ++ x.bytes.items) c.loop-kept.invariant
    ∙ append_assoc before (joined (map (kept key) (take i xs))) x.bytes.items
    ∙ ap (λ (z : List ℕ). before ++ z) (sym more)
