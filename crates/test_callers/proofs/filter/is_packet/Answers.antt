use Rattle.test_callers.proofs.Checks.{is_good}
use Rattle.test_callers.proofs.filter.is_packet.Goals as goal

-- src/lib.rt:39:1
pub returns : goal.returns
returns c =
    rw c.is_ok.ensures.value (is_good c.args.bytes.now c.args.word c.args.policy.now c.check.result
    c.check.ensures.answer)
