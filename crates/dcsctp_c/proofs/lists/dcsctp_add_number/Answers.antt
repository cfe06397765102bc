use Rattle.dcsctp_c.proofs.lists.dcsctp_add_number.Goals as goal

pub returns : goal.returns
returns c = rw c.to_be_bytes.ensures at c.add_to_list.ensures
