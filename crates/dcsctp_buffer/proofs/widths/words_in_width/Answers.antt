use Rattle.std.proofs.Common.{arith}
use Rattle.dcsctp_buffer.proofs.Numbers.{all_below}
use Rattle.dcsctp_buffer.proofs.widths.words_in_width.Goals as goal

pub returns : goal.returns
returns c = all_below 0x1_0000_0000 c.args.words.now (λ i. omega (arith, c.type_inv.words i))
