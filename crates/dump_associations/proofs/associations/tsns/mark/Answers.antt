use Rattle.dump_associations.proofs.Marks.{mark}
use Rattle.dump_associations.proofs.associations.tsns.mark.Goals as goal

pub returns : goal.returns
returns c t =
    rw (c.word_of.ensures, c.bit_of.ensures) (mark c.args.seen.now t c.args.tsn c.told-seen)
