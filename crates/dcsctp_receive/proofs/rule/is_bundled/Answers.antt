use Rattle.std.proofs.Common.{rules}
use Rattle.dcsctp_borrowed.specs.Part.{part_of}
use Rattle.dcsctp_receive.specs.Chunks.{items_of}
use Rattle.dcsctp_receive.proofs.ItemLists.{has_two}
use Rattle.dcsctp_receive.proofs.rule.is_bundled.Goals as goal

pub returns-then-some : goal.returns-then-some
returns-then-some c = let two = has_two (items_of (part_of c.args.chunks)) in search rules
