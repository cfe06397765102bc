use Rattle.std.proofs.Common.{refl}
use Rattle.dcsctp_registry.specs.CauseLayouts.{cause_rows}
use Rattle.dcsctp_c.proofs.RegisteredPlaces.{cause_kept, reads_into}
use Rattle.dcsctp_c.proofs.registered.dcsctp_registered_cause.Goals as goal

pub returns-in-Some-clause-read : goal.returns-in-Some-clause-read
returns-in-Some-clause-read c =
    let it = c.args.cause.now in
    reads_into cause_rows it.typ 0 c.args.bytes.now it.value_offset it.value_size
    c.in-Some.value.now _ _ _ _ _ (c.in-Some.ensures) c.cause_by_type.ensures refl
    c.put.ensures.done c.put.ensures.output

pub returns-in-Some-clause-means : goal.returns-in-Some-clause-means
returns-in-Some-clause-means c t m =
    let it = c.args.cause.now in
    reads_into cause_rows it.typ 0 c.args.bytes.now it.value_offset it.value_size
    c.in-Some.value.now _ _ _ _ _ (c.in-Some.ensures) c.cause_by_type.ensures
    (cause_kept c.args.bytes.now it t m) c.put.ensures.done c.put.ensures.output
