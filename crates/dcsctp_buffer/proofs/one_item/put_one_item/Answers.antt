use Rattle.dcsctp_buffer.proofs.Items.{one_item_written}
use Rattle.dcsctp_buffer.proofs.one_item.put_one_item.Goals as goal

pub returns : goal.returns
returns c =
    let s = c.split_at_mut-rest in
    one_item_written c.args.first c.args.second c.args.typ c.args.item_value.now c.args.output.now
    c.put_header.new.output s.result.0.now s.result.1.now c.put_parameter.new.output
    c.requires.room c.put_header.ensures s.ensures.front s.ensures.back c.put_parameter.ensures
