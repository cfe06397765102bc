use Rattle.std.proofs.Common.{◌∙◌}
use Rattle.dcsctp_borrowed.specs.Part.{part_of}
use Rattle.dcsctp_receive.specs.{Chunks.{items_of}, ChunkTest.{meets_test}}
use Rattle.dcsctp_receive.proofs.ItemLists.{some_is_found}
use Rattle.dcsctp_receive.proofs.chunk_test.some.Goals as goal

pub returns : goal.returns
returns c =
    c.is_some.ensures ∙ some_is_found (meets_test c.args.test) (items_of (part_of c.args.chunks))
    c.after_first.result c.after_first.ensures
