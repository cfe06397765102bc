use Rattle.std.proofs.Common.{ap, sym, subst, ◌∙◌}
use Rattle.dcsctp_tlv.specs.Number.{AreBytes}
use Rattle.dcsctp_borrowed.proofs.Meanings.{meaning_same, canonical_same}
use Rattle.dcsctp_borrowed.proofs.meaning.means_same.Goals as goal

pub returns-then-same_numbers-clause-same : goal.returns-then-same_numbers-clause-same
returns-then-same_numbers-clause-same c = λ p q ref ref_too.
    let left = c.bytes.ensures.value in
    let right = c.bytes-then-same_numbers.ensures.value in
    meaning_same c.args.left.now c.args.right.now p q ref ref_too
    (subst AreBytes left c.bytes.ensures.fits)
    (subst AreBytes right c.bytes-then-same_numbers.ensures.fits)
    (c.same_numbers.ensures.0 c.if-same_numbers.true) c.same_items.result
    (rw (left, right) at c.same_items.ensures.same)

pub returns-else-same_numbers-clause-same : goal.returns-else-same_numbers-clause-same
returns-else-same_numbers-clause-same c = λ p q ref ref_too. (
  λ is. absurd cc,
  λ e. c.same_numbers.ensures.1 (
    ref.source ∙ ap (λ m. m.source) e ∙ sym ref_too.source,
    ref.destination ∙ ap (λ m. m.destination) e ∙ sym ref_too.destination,
    ref.tag ∙ ap (λ m. m.tag) e ∙ sym ref_too.tag,
  ),
)

pub returns-then-same_numbers-clause-canonical : goal.returns-then-same_numbers-clause-canonical
returns-then-same_numbers-clause-canonical c = λ p q ref ref_too has has_too.
    canonical_same p.meaning q.meaning _ has has_too
    (returns-then-same_numbers-clause-same c p q ref ref_too)

pub returns-else-same_numbers-clause-canonical : goal.returns-else-same_numbers-clause-canonical
returns-else-same_numbers-clause-canonical c = λ p q ref ref_too has has_too.
    canonical_same p.meaning q.meaning _ has has_too
    (returns-else-same_numbers-clause-same c p q ref ref_too)
