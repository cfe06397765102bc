-- The search alone finds these: they are said so that a wrong edit is refused soon.
use Rattle.std.proofs.Common.{rules}
use Rattle.dcsctp_receive.proofs.chunk_test.has_wrong_blocks.Goals as goal

pub returns-then-has_wrong_list : goal.returns-then-has_wrong_list
returns-then-has_wrong_list c = search rules

pub returns-else-has_wrong_list : goal.returns-else-has_wrong_list
returns-else-has_wrong_list c = search rules
