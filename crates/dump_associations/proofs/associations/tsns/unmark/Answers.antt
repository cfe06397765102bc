use Rattle.dump_associations.proofs.Marks.{unmark}
use Rattle.dump_associations.proofs.associations.tsns.unmark.Goals as goal

pub returns : goal.returns
returns c t =
    rw (c.word_of.ensures, c.bit_of.ensures) (unmark c.args.seen.now t c.args.tsn c.told-seen)
