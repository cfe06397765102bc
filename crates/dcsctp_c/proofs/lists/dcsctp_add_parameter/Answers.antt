use Rattle.std.proofs.Common.{append-nil}
use Rattle.dcsctp_c.proofs.lists.dcsctp_add_parameter.Goals as goal

pub returns : goal.returns
returns c = rw (append-nil c.args.value.now) at c.add_to_list.ensures
