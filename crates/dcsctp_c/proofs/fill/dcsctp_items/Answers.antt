use Rattle.std.proofs.Common.{◌+◌, ℕ, List, drop, length, get_or-drop}
use Rattle.dcsctp_tlv.specs.{Frame.{lenient}, Number.{AreBytes}, Parameter.{parameters, row as parameter_row}}
use Rattle.dcsctp_cause.specs.Cause.{causes, row as cause_row}
use Rattle.dcsctp_c.{specs.Parameter.{ParameterMeans, CauseMeans}, specs.declared.structs.DcsctpParameter.{DcsctpParameter}, proofs.Fills.{all_mean, fills_means}}
use Rattle.dcsctp_c.proofs.fill.dcsctp_items.Goals as goal

from_each : (bytes : List ℕ) → AreBytes bytes → (offset : ℕ) → AreBytes (drop offset bytes)
from_each bytes fits offset i = rw get_or-drop (fits (offset + i))

pub returns-clause-of_parameters : goal.returns-clause-of_parameters
returns-clause-of_parameters c trees mean =
    let bytes = c.args.bytes.now in
    let written = c.write_items.ensures in
    fills_means (ParameterMeans bytes) written.all trees _ _ c.write_items.result written.fills
    (all_mean (parameters lenient) (λ (p : DcsctpParameter). parameter_row p.typ) bytes
    (λ (n : ℕ). drop n bytes) (length bytes) (from_each bytes (λ i. (c.type_inv.bytes i).fits))
    (λ offset p here. here.of_parameters) c.args.offset written.all written.are trees mean)

pub returns-clause-of_causes : goal.returns-clause-of_causes
returns-clause-of_causes c trees mean =
    let bytes = c.args.bytes.now in
    let written = c.write_items.ensures in
    fills_means (CauseMeans bytes) written.all trees _ _ c.write_items.result written.fills
    (all_mean (causes lenient) (λ (p : DcsctpParameter). cause_row p.typ) bytes
    (λ (n : ℕ). drop n bytes) (length bytes) (from_each bytes (λ i. (c.type_inv.bytes i).fits))
    (λ offset p here. here.of_causes) c.args.offset written.all written.are trees mean)
