-- The owner is the one that is found.
use Rattle.dump_associations.proofs.associations.Associations.known_of.Goals as goal

pub returns : goal.returns
returns c = (c.owner.result, c.owner.ensures, c.known_in.ensures)
