use Rattle.std.proofs.Common.{◌≡◌, ℕ, drop, subst}
use Rattle.dcsctp_tlv.{specs.Image.{image_of, written}, proofs.Images.{drop-written}, proofs.Lengths.{length-format}}
use Rattle.dcsctp_wire.proofs.laws.image_size.Goals as goal

pub returns-clause-size : goal.returns-clause-size
returns-clause-size g c = λ item. length-format (g.T.SerializableTlv.format item)

pub returns-clause-after : goal.returns-clause-after
returns-clause-after g c = λ item output.
    let image = image_of (g.T.SerializableTlv.format item).tlv in
    subst (λ (n : ℕ). drop n (written image output) ≡ drop n output)
    (length-format (g.T.SerializableTlv.format item)) (drop-written image output)
