use Rattle.std.proofs.Common.{◌+◌, length, true, refl}
use Rattle.dcsctp_tlv.proofs.Places.{finds_listed}
use Rattle.dcsctp_cause.specs.Cause.{causes}
use Rattle.dcsctp_wire.specs.Abort.{tree_of as abort_of}
use Rattle.dcsctp_wire.proofs.packet.abort_chunk.AbortChunkKind.check.Goals as goal

pub returns-clause-found : goal.returns-clause-found
returns-clause-found c =
    finds_listed (λ value. true) 0 (causes c.args.strict) (λ value cs. abort_of c.args.flags cs)
    (λ a. 1 + length a.causes) (λ v cs. refl) c.args.value.now c.listed_check.result refl
    c.listed_check.ensures.found
