use Rattle.std.proofs.Common.{◌≡◌, ◌+◌, ℕ, Bool, false, get_or, arith, sym, subst, ◌∙◌}
use Rattle.std.proofs.lemmas.List.{get_or-map}
use Rattle.dcsctp_borrowed.specs.Part.{Part as ThePart}
use Rattle.dcsctp_receive.specs.Rule.{broken, is_broken_by}
use Rattle.dcsctp_receive.specs.declared.rule.Rule.TheVariants as rule
use Rattle.dcsctp_receive.specs.declared.rule.TheConstants.Rule.{ALL}
use Rattle.dcsctp_receive.proofs.Marks.{Marks, marks-set, marks-unset}
use Rattle.dcsctp_receive.proofs.rule.BrokenRules.of.Goals.{then-breaks_rule, else-breaks_rule}
use Rattle.dcsctp_receive.proofs.rule.BrokenRules.of.Goals as goal

pub loop-i-preserved : goal.loop-i-preserved
loop-i-preserved c =
    let i = c.loop-i.i in
    let bits = c.loop-i.bits in
    let p : ThePart = record { bytes = c.args.bytes.now; size = c.args.size } in
    let test : ℕ → Bool = λ i. get_or (broken p c.args.word c.args.known) i false in
    let is : test i ≡ c.breaks_rule.result =
    get_or-map (is_broken_by p c.args.word c.args.known) ALL i rule.PortZero false (omega arith)
    ∙ sym c.breaks_rule.ensures in
    elim c.if-breaks_rule.branch [
      | then-breaks_rule w ↦ subst (λ (b : ℕ). Marks test b (i + 1)) (sym w.bits-is)
          (marks-set test bits i (omega arith) (is ∙ w.if-breaks_rule.true) c.loop-i.invariant)
      | else-breaks_rule w ↦ subst (λ (b : ℕ). Marks test b (i + 1)) (sym w.bits-is)
          (marks-unset test bits i (is ∙ w.if-breaks_rule.false) c.loop-i.invariant)
    ]
