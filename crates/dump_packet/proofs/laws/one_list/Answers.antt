use Rattle.dump_packet.proofs.Ahead.{are_seen, one_seen}
use Rattle.dump_packet.proofs.laws.one_list.Goals as goal

pub returns-clause-some_seen : goal.returns-clause-some_seen
returns-clause-some_seen c = are_seen

pub returns-clause-one_seen : goal.returns-clause-one_seen
returns-clause-one_seen c = one_seen
