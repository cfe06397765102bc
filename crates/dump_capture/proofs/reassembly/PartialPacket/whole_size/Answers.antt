use Rattle.std.proofs.Common.{◌≡◌, ◌+◌, ◌<◌, ℕ, Bool, List, [], length, map, take, get_or, true, false, refl, ap, sym, subst, ◌∙◌, arith}
use Rattle.std.proofs.lemmas.Grind.{common_steps}
use Rattle.std.proofs.lemmas.List.{take_all}
use Rattle.dump_capture.specs.Reassembly.{joined, AreFront, kept}
use Rattle.dump_capture.specs.declared.reassembly.KeptFragment.{KeptFragment}
use Rattle.dump_capture.proofs.Kept.{front-more, size-more}
use Rattle.dump_capture.proofs.reassembly.PartialPacket.whole_size.Goals as goal

pub loop-kept-init : goal.loop-kept-init
loop-kept-init c = record { front = AreFront.none [] true refl refl; size = refl }

pub loop-kept-preserved : goal.loop-kept-preserved
loop-kept-preserved c =
    let key = c.args.self.now.key in
    let xs = c.args.self.now.fragments.items in
    let x = c.kept-item.result in
    let i = c.loop-kept.kept-index in
    let below : i < length xs = omega (
      arith,
      c.deref-kept-items.ensures.len,
      ap length
          c.deref-kept-items.ensures.value,
    ) in
    let is : x ≡ get_or xs i x = c.kept-item.is
    ∙ ap (λ (ys : List KeptFragment). get_or ys i x) c.deref-kept-items.ensures.value in
    let size : c.len-end.result ≡ length x.bytes.items = grind (arith, common_steps) in record {
      front = front-more key xs i x below is
          (subst (λ (m : Bool). AreFront (map (kept key) (take i xs)) m) c.if-not-more.false
          c.loop-kept.invariant.front) (c.if-kept-end.false ∙ c.loop-kept.invariant.size);
      size = ap (λ (n : ℕ). n + c.len-end.result) c.loop-kept.invariant.size
          ∙ ap (λ (n : ℕ). length (joined (map (kept key) (take i xs))) + n) size
          ∙ sym (size-more key xs i x below is);
    }

pub returns-else-more : goal.returns-else-more
returns-else-more c =
    let key = c.args.self.now.key in
    let xs = c.args.self.now.fragments.items in
    let i = c.loop-kept.kept-index in
    let all : take i xs ≡ xs = take_all i xs (omega (
      arith,
      ap length
          c.deref-kept-items.ensures.value,
    )) in (
      subst (λ (ys : List KeptFragment). AreFront (map (kept key) ys) false) all
          (subst (λ (m : Bool). AreFront (map (kept key) (take i xs)) m) c.if-more.false
          c.loop-kept.invariant.front),
      c.loop-kept.invariant.size
          ∙ ap (λ (ys : List KeptFragment). length (joined (map (kept key) ys))) all,
    )
