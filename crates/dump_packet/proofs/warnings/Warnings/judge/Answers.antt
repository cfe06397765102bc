use Rattle.std.proofs.Common.{Bool, ap, ◌∙◌, slice_index, if◌then◌else◌}
use Rattle.dump_capture.specs.Number.{one_more}
use Rattle.dump_packet.proofs.warnings.Warnings.judge.Goals as goal

pub returns-clause-judged : goal.returns-clause-judged
returns-clause-judged c = λ is i below.
    let before = slice_index c.args.self.now.counts i in
    c.count.ensures i below
    ∙ ap (λ (b : Bool). if b then one_more before else before) (c.of-broken.ensures i)
