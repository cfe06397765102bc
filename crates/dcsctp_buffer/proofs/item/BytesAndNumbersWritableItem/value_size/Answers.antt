use Rattle.std.proofs.Common.{sym}
use Rattle.dcsctp_buffer.proofs.Extended.{length-item_value}
use Rattle.dcsctp_buffer.proofs.item.BytesAndNumbersWritableItem.value_size.Goals as goal

pub returns : goal.returns
returns c = sym (length-item_value c.args.self.now.leading.now c.args.self.now.numbers.now)
