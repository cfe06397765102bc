use Rattle.std.proofs.Common.{None, length, refl}
use Rattle.dcsctp_tlv.specs.Frame.{lenient}
use Rattle.dcsctp_cause.specs.Cause.{causes}
use Rattle.dcsctp_borrowed.{specs.RawCauses.{cause_bytes, causes_of}, proofs.ListPlaces.{given, not_given, causes_there}}
use Rattle.dcsctp_borrowed.proofs.raw_causes.RawCauses.from_raw.Goals as goal

pub returns-in-Err-clause-read : goal.returns-in-Err-clause-read
returns-in-Err-clause-read c =
    not_given (causes lenient) (cause_bytes c.args.raw.now.typ c.args.raw.now.value.now)
    c.in_ok-rest.rest.now c.in_ok-rest.ensures
    (λ m. c.in-Err.ensures.answer.value (length m.0) (m.0, m.1, refl))

pub returns-in-Err-clause-means : goal.returns-in-Err-clause-means
returns-in-Err-clause-means c tree means =
    let raw = c.args.raw.now in
    let place = cause_bytes raw.typ raw.value.now in
    given (causes lenient) place None (causes_of tree)
    (not_given (causes lenient) place c.in_ok-rest.rest.now c.in_ok-rest.ensures
    (λ m. c.in-Err.ensures.answer.value (length m.0) (m.0, m.1, refl)))
    (causes_there raw.typ raw.flags raw.value.now tree means)
