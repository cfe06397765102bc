use Rattle.std.proofs.Common.{length, refl, ap, ◌∙◌, eq-eqb}
use Rattle.dcsctp_chunk.specs.Sack.{numbers_at, size_of_value}
use Rattle.dcsctp_borrowed.proofs.sack_ref.SackRef.of_value.Goals as goal

pub of_checked-requires : goal.of_checked-requires
of_checked-requires c =
    let value = c.args.value.now in
    let size = c.if-value-value_size.false ∙ c.value_size.ensures ∙ ap size_of_value c.read.ensures in
    rw (eq-eqb (length value) (size_of_value (numbers_at value)) size) refl
