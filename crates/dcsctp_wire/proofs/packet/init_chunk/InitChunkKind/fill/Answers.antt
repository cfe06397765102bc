use Rattle.std.proofs.lemmas.List.{take_rest}
use Rattle.dcsctp_tlv.specs.Parameter.{views}
use Rattle.dcsctp_wire.proofs.Filled.{init_filled}
use Rattle.dcsctp_wire.proofs.packet.init_chunk.InitChunkKind.fill.Goals as goal

pub returns-clause-meant : goal.returns-clause-meant
returns-clause-meant c =
    init_filled c.parameters_fill.result c.args.value.now _ (views c.parameters_fill.new.list.items)
    c.requires.value c.requires.begun.0
    (rw (take_rest c.args.value.now 16) at c.parameters_fill.ensures.meant)
