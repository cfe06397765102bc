-- What the three calls write, one after the other.
use Rattle.std.{proofs.Common.{ℕ, List, ap, refl, ◌∙◌, map, append_assoc, codes}, specs.Fmt.{decimal}, proofs.Output.{has_written_append, has_written_of_eq}}
use Rattle.dcsctp_tlv.specs.Text.{joined}
use Rattle.dcsctp_cause.specs.MissingMandatoryParameter as missing
use Rattle.dcsctp_cause.proofs.missing_mandatory_parameter_error_cause.MissingMandatoryParameterErrorCauseDisplay.fmt.Goals as goal

pub returns-clause-writes : goal.returns-clause-writes
returns-clause-writes g c = λ plain ok.
    let title = c.in_ok-write.ensures.writes plain refl in
    let joining = c.in_ok-write_joined.ensures decimal (λ x. refl) title.plain refl in
    let types = has_written_append _ _ _ _ _ _ title joining in
    let whole =
    append_assoc (codes "Missing Mandatory Parameter, missing_parameters=[")
    (joined (codes ", ") (map decimal c.deref.result.now)) (codes "]")
    ∙ ap (λ (types : List ℕ). (missing.format types).text) c.deref.ensures.value in
    has_written_of_eq _ _ _ _ _ whole
    (has_written_append _ _ _ _ _ _ types (c.write-2.ensures.writes types.plain ok))
