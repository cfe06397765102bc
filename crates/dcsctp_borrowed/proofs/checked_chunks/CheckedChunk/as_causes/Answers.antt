use Rattle.std.proofs.Common.{Some, None, refl}
use Rattle.dcsctp_tlv.specs.Frame.{lenient}
use Rattle.dcsctp_cause.specs.Cause.{causes}
use Rattle.dcsctp_borrowed.{specs.RawCauses.{cause_bytes, causes_of}, proofs.CheckedRows.{listed, list_at}, proofs.ListPlaces.{causes_there}}
use Rattle.dcsctp_borrowed.proofs.checked_chunks.CheckedChunk.as_causes.Goals as goal

pub new-requires : goal.new-requires
new-requires c =
    let raw = c.self.inside.raw in
    let known = c.self.invariant in
    listed (causes lenient) c.in_ok-rest.rest.now (causes_of known.0)
    (list_at (causes lenient) cause_bytes causes_of causes_there raw raw refl _
    c.in_ok-rest.ensures known.0 known.1)

-- the value has no place for causes
pub returns-in_err-rest-clause-means : goal.returns-in_err-rest-clause-means
returns-in_err-rest-clause-means c tree means = rw c.from_residual.ensures
    (list_at (causes lenient) cause_bytes causes_of causes_there c.self.inside.raw _
    c.self.view_is None c.in_err-rest.ensures tree means)

pub returns-clause-means : goal.returns-clause-means
returns-clause-means c tree means = rw c.new.ensures
    (list_at (causes lenient) cause_bytes causes_of causes_there c.self.inside.raw _
    c.self.view_is (Some c.in_ok-rest.rest.now) c.in_ok-rest.ensures tree means)
