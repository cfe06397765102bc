use Rattle.std.proofs.Common.{◌%◌}
use Rattle.dump_associations.proofs.Marks.{is_set}
use Rattle.dump_associations.proofs.associations.tsns.is_marked.Goals as goal

pub returns : goal.returns
returns c = rw (c.word_of.ensures, c.bit_of.ensures) (is_set _ (c.args.tsn % 64))
