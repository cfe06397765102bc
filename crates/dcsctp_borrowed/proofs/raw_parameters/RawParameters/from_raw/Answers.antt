use Rattle.std.proofs.Common.{List, ℕ, Option, Some, None, length, refl, sym, subst}
use Rattle.dcsctp_tlv.specs.{Frame.{lenient}, Parameter.{parameters}}
use Rattle.dcsctp_borrowed.{specs.Front.{MeansList}, specs.RawParameters.{parameter_bytes, parameters_of}, proofs.ListPlaces.{given, not_given, parameters_there}}
use Rattle.dcsctp_borrowed.proofs.raw_parameters.RawParameters.from_raw.Goals as goal

-- the value has no place for parameters
pub returns-in_err-rest-clause-means : goal.returns-in_err-rest-clause-means
returns-in_err-rest-clause-means c tree means =
    let raw = c.args.raw.now in
    let there = parameters_there raw.typ raw.flags raw.value.now tree means in
    rw c.from_residual.ensures (subst (λ (place : Option (List ℕ)). MeansList (parameters lenient)
    place (parameters_of tree)) (sym c.in_err-rest.ensures) there)

pub returns-in-Err-clause-read : goal.returns-in-Err-clause-read
returns-in-Err-clause-read c =
    not_given (parameters lenient) (parameter_bytes c.args.raw.now.typ c.args.raw.now.value.now)
    c.in_ok-rest.rest.now c.in_ok-rest.ensures
    (λ m. c.in-Err.ensures.answer.value (length m.0) (m.0, m.1, refl))

pub returns-in-Err-clause-means : goal.returns-in-Err-clause-means
returns-in-Err-clause-means c tree means =
    let raw = c.args.raw.now in
    let place = parameter_bytes raw.typ raw.value.now in
    given (parameters lenient) place None (parameters_of tree)
    (not_given (parameters lenient) place c.in_ok-rest.rest.now c.in_ok-rest.ensures
    (λ m. c.in-Err.ensures.answer.value (length m.0) (m.0, m.1, refl)))
    (parameters_there raw.typ raw.flags raw.value.now tree means)

pub returns-in-Ok-clause-means : goal.returns-in-Ok-clause-means
returns-in-Ok-clause-means c tree means =
    let raw = c.args.raw.now in
    let place = parameter_bytes raw.typ raw.value.now in
    let found = c.in-Ok.ensures.answer.answers in
    rw c.new.ensures (given (parameters lenient) place (Some c.in_ok-rest.rest.now)
    (parameters_of tree) (sym c.in_ok-rest.ensures, (found.0, found.1))
    (parameters_there raw.typ raw.flags raw.value.now tree means))
