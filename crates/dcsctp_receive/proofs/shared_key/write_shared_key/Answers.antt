use Rattle.std.proofs.Common.{◌∙◌, ◌++◌, ap₂, refl, sym}
use Rattle.dcsctp_tlv.specs.Image.{put}
use Rattle.dcsctp_receive.proofs.Vectors.{both_first}
use Rattle.dcsctp_receive.proofs.shared_key.write_shared_key.Goals as goal
use Rattle.dcsctp_receive.proofs.shared_key.write_shared_key.Goals.{then-comes_first, else-comes_first}

pub returns-clause-other_first : goal.returns-clause-other_first
returns-clause-other_first c = λ some first.
    let one = c.args.one.now in
    let other = c.args.other.now in
    elim c.if-comes_first.branch [
      | then-comes_first w ↦
          let same = both_first one other (λ i. (c.type_inv.one i).fits)
          (λ i. (c.type_inv.other i).fits) (w.if-comes_first.ensures.0 refl) first in
          w.buffer-is ∙ w.put_three.ensures
          ∙ ap₂ (λ x y. put c.args.buffer.now 0 (c.args.pair_key.now ++ (x ++ y))) same (sym same)
      | else-comes_first w ↦ w.buffer-is ∙ w.put_three-else-comes_first.ensures
    ]
