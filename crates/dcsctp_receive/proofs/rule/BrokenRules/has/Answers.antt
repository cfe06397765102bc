use Rattle.std.proofs.Common.{◌<◌, ◌^◌, ◌==◌, ℕ, sym, ap, ◌∙◌, rules}
use Rattle.std.proofs.lemmas.Bool.{le-ltb}
use Rattle.std.proofs.lemmas.Nat.Bits.{bit_at_above}
use Rattle.dcsctp_receive.proofs.rule.BrokenRules.has.Goals as goal

pub returns-else-index-lt32 : goal.returns-else-index-lt32
returns-else-index-lt32 c =
    let bits = c.args.self.bits in
    let fits : bits < 2 ^ 32 = search rules in
    le-ltb c.args.index 32 c.if-index-lt32.false
    ∙ sym (ap (λ (b : ℕ). b == 1) (bit_at_above bits 32 c.args.index fits c.if-index-lt32.false))
