-- Where the number wasn't captured, no block was.
use Rattle.std.proofs.Common.{◌<◌, not, length, sym, ap, ◌∙◌, arith, length-drop}
use Rattle.std.proofs.lemmas.Bool.{lt-leb}
use Rattle.dcsctp_tlv.specs.Number.{number16}
use Rattle.dcsctp_borrowed.specs.Part.{Part, part_of, after}
use Rattle.dcsctp_receive.proofs.Blocks.{are_isolated-none}
use Rattle.dcsctp_receive.proofs.chunk_test.has_wrong_list.Goals as goal

pub returns-else-numbers-ge2 : goal.returns-else-numbers-ge2
returns-else-numbers-ge2 c =
    let v = part_of c.args.value in
    let count = c.args.count in
    let start = c.args.start in
    let size = ap (λ (p : Part). length p.bytes) c.after.ensures in
    let few : length (after start v).bytes < 4 =
    omega (arith, size, length-drop count v.bytes, length-drop start v.bytes) in
    lt-leb 2 (length c.after.result.bytes.now) c.if-numbers-ge2.false
    ∙ ap not (sym (are_isolated-none (number16 (after count v).bytes) 0 (after start v) few))
