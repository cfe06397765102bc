use Rattle.std.proofs.Common.{Ok, Err, rules, refl}
use Rattle.dcsctp_tlv.proofs.Readings.{finds_as}
use Rattle.dcsctp_wire.{specs.InitFields.{row as init_row}, specs.ParameterList.{row as parameter_list_row}, specs.Abort.{row as abort_row}, specs.Error.{row as error_row}, specs.Chunk.{parts as chunk_parts, Init, InitAck, HeartbeatRequest, HeartbeatAck, Abort, Error, ReConfig}, proofs.ChunkRows.{plain_finds}}
use Rattle.dcsctp_wire.proofs.packet.chunk.ChunkReadableTlv.check.Goals as goal

pub returns-in-1-clause-found : goal.returns-in-1-clause-found
returns-in-1-clause-found c = rw c.in-1.is (finds_as Init (init_row c.args.strict) _ chunk_parts
    (λ x. refl) c.args.value.now _ c.check.ensures.found)

pub returns-in-2-clause-found : goal.returns-in-2-clause-found
returns-in-2-clause-found c = rw c.in-2.is (finds_as InitAck (init_row c.args.strict) _ chunk_parts
    (λ x. refl) c.args.value.now _ c.check-in-2.ensures.found)

pub returns-in-4-clause-found : goal.returns-in-4-clause-found
returns-in-4-clause-found c = rw c.in-4.is (finds_as HeartbeatRequest (parameter_list_row c.args.strict) _ chunk_parts
    (λ x. refl) c.args.value.now _ c.check-in-4.ensures.found)

pub returns-in-5-clause-found : goal.returns-in-5-clause-found
returns-in-5-clause-found c = rw c.in-5.is (finds_as HeartbeatAck (parameter_list_row c.args.strict) _ chunk_parts
    (λ x. refl) c.args.value.now _ c.check-in-5.ensures.found)

pub returns-in-6-clause-found : goal.returns-in-6-clause-found
returns-in-6-clause-found c = rw c.in-6.is (finds_as Abort (abort_row c.args.strict c.args.second) _ chunk_parts
    (λ x. refl) c.args.value.now _ c.check-in-6.ensures.found)

pub returns-in-9-clause-found : goal.returns-in-9-clause-found
returns-in-9-clause-found c = rw c.in-9.is (finds_as Error (error_row c.args.strict) _ chunk_parts
    (λ x. refl) c.args.value.now _ c.check-in-9.ensures.found)

pub returns-in-130-clause-found : goal.returns-in-130-clause-found
returns-in-130-clause-found c = rw c.in-130.is (finds_as ReConfig (parameter_list_row c.args.strict) _ chunk_parts
    (λ x. refl) c.args.value.now _ c.check-in-130.ensures.found)

pub returns-in-Ok-clause-found : goal.returns-in-Ok-clause-found
returns-in-Ok-clause-found c = plain_finds c.args.strict c.args.first c.args.second c.args.value.now
    (Ok (tt {0})) (search rules) c.in-Ok.ensures.answer

pub returns-in-Err-clause-found : goal.returns-in-Err-clause-found
returns-in-Err-clause-found c = rw c.at_front.ensures (plain_finds c.args.strict c.args.first
    c.args.second c.args.value.now (Err c.in-Err.fault) (search rules) c.in-Err.ensures.answer)
