use Rattle.dcsctp_c.proofs.Fills.{written_in}
use Rattle.dcsctp_c.proofs.fill.write_parameters.Goals as goal

pub returns-in-Some : goal.returns-in-Some
returns-in-Some c =
    written_in c.args.bytes.now c.in-Some.list.now c.args.chunk.now c.in-Some.ensures c.args.start
    c.args.parameters.now _ c.write_items.result c.requires c.write_items.ensures
