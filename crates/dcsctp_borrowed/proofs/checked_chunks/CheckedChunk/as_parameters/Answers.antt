use Rattle.std.proofs.Common.{Some, None, refl}
use Rattle.dcsctp_tlv.specs.{Frame.{lenient}, Parameter.{parameters}}
use Rattle.dcsctp_borrowed.{specs.RawParameters.{parameter_bytes, parameters_of}, proofs.CheckedRows.{listed, list_at}, proofs.ListPlaces.{parameters_there}}
use Rattle.dcsctp_borrowed.proofs.checked_chunks.CheckedChunk.as_parameters.Goals as goal

pub new-requires : goal.new-requires
new-requires c =
    let raw = c.self.inside.raw in
    let known = c.self.invariant in
    listed (parameters lenient) c.in_ok-rest.rest.now (parameters_of known.0)
    (list_at (parameters lenient) parameter_bytes parameters_of parameters_there raw raw refl _
    c.in_ok-rest.ensures known.0 known.1)

-- the value has no place for parameters
pub returns-in_err-rest-clause-means : goal.returns-in_err-rest-clause-means
returns-in_err-rest-clause-means c tree means = rw c.from_residual.ensures
    (list_at (parameters lenient) parameter_bytes parameters_of parameters_there c.self.inside.raw _
    c.self.view_is None c.in_err-rest.ensures tree means)

pub returns-clause-means : goal.returns-clause-means
returns-clause-means c tree means = rw c.new.ensures
    (list_at (parameters lenient) parameter_bytes parameters_of parameters_there c.self.inside.raw _
    c.self.view_is (Some c.in_ok-rest.rest.now) c.in_ok-rest.ensures tree means)
