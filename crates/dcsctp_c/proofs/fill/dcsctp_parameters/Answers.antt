use Rattle.std.proofs.Common.{arith, ◌+◌}
use Rattle.dcsctp_tlv.specs.{Frame.{lenient}, Parameter.{parameters, row as parameter_row}}
use Rattle.dcsctp_cause.specs.Cause.{causes, row as cause_row}
use Rattle.dcsctp_c.{specs.Part.{value_from}, specs.Parameter.{ParameterMeans, CauseMeans}, specs.declared.structs.DcsctpParameter.{DcsctpParameter}, proofs.Fills.{all_mean, fills_means, from_bytes}}
use Rattle.dcsctp_c.proofs.fill.dcsctp_parameters.Goals as goal

pub returns-clause-read : goal.returns-clause-read
returns-clause-read c =
    let written = c.write_parameters.ensures in
    record {
      all = written.0;
      start = c.dcsctp_list_offset.result;
      list = λ value there.
          c.dcsctp_list_offset.ensures.list c.args.bytes.now value (omega arith) there;
      are = written.1;
      fills = written.2;
    }

pub returns-clause-of_parameters : goal.returns-clause-of_parameters
returns-clause-of_parameters c tree trees mean is =
    let bytes = c.args.bytes.now in
    let written = c.write_parameters.ensures in
    let list = c.dcsctp_list_offset.ensures.lists bytes tree (omega arith) mean in
    fills_means (ParameterMeans bytes) written.0 trees _ _ c.write_parameters.result written.2
    (all_mean (parameters lenient) (λ (p : DcsctpParameter). parameter_row p.typ) bytes
    (value_from bytes c.args.chunk.now)
    (c.args.chunk.now.value_offset + c.args.chunk.now.value_size)
    (λ offset. from_bytes bytes c.args.chunk.now offset (λ i. (c.type_inv.bytes i).fits))
    (λ offset p here. here.of_parameters)
    c.dcsctp_list_offset.result written.0 written.1 trees (list.of_parameters trees is))

pub returns-clause-of_causes : goal.returns-clause-of_causes
returns-clause-of_causes c tree trees mean is =
    let bytes = c.args.bytes.now in
    let written = c.write_parameters.ensures in
    let list = c.dcsctp_list_offset.ensures.lists bytes tree (omega arith) mean in
    fills_means (CauseMeans bytes) written.0 trees _ _ c.write_parameters.result written.2
    (all_mean (causes lenient) (λ (p : DcsctpParameter). cause_row p.typ) bytes
    (value_from bytes c.args.chunk.now)
    (c.args.chunk.now.value_offset + c.args.chunk.now.value_size)
    (λ offset. from_bytes bytes c.args.chunk.now offset (λ i. (c.type_inv.bytes i).fits))
    (λ offset p here. here.of_causes)
    c.dcsctp_list_offset.result written.0 written.1 trees (list.of_causes trees is))
