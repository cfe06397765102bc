use Rattle.std.proofs.Common.{◌/◌, ◌%◌, ap, ◌∙◌}
use Rattle.dcsctp_chunk.proofs.NumberPairs.{pair_first, pair_second}
use Rattle.dcsctp_chunk.proofs.sack_chunk.two_numbers.Goals as goal

pub returns-clause-first : goal.returns-clause-first
returns-clause-first c =
    let bytes = c.args.bytes.now in
    ap (λ n. n / 65536) c.read_u32_be-both.ensures ∙ pair_first bytes c.requires
    (λ i. (c.type_inv.bytes i).fits)

pub returns-clause-second : goal.returns-clause-second
returns-clause-second c =
    let bytes = c.args.bytes.now in
    ap (λ n. n % 65536) c.read_u32_be-both.ensures ∙ pair_second bytes c.requires
    (λ i. (c.type_inv.bytes i).fits)
