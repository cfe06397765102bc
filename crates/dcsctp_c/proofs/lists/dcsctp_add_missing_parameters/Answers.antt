use Rattle.dcsctp_c.proofs.Writings.{missing_added}
use Rattle.dcsctp_c.proofs.lists.dcsctp_add_missing_parameters.Goals as goal

pub returns : goal.returns
returns c = missing_added c.args.start c.args.types.now c.to_be_bytes-count.result _ _ _
    c.to_be_bytes-count.ensures c.add_to_list.ensures
