use Rattle.std.proofs.Common.{◌≡◌, fold, subst, ◌∙◌}
use Rattle.dcsctp_borrowed.specs.Part.{item_of}
use Rattle.dcsctp_receive.specs.Chunks.{items_of}
use Rattle.dump_associations.specs.StaleCookies.{with_cause}
use Rattle.dump_associations.proofs.ChunkCounts.{Counting-none, Counting-next, Counting-list}
use Rattle.dump_associations.proofs.associations.stale_cookies.StaleCookies.count_causes.Goals as goal

pub loop-cause-init : goal.loop-cause-init
loop-cause-init c = Counting-none with_cause _ _

pub loop-cause-preserved : goal.loop-cause-preserved
loop-cause-preserved c =
    let steps = c.in-Some.ensures.steps in
    Counting-next with_cause c.into_iter-cause-iterator.result c.loop-cause.cause-iterator
    c.next.new.self c.args.self.now c.loop-cause.self c.count_cause.new.self
    (item_of c.in-Some.cause) c.loop-cause.invariant steps.0 steps.1 steps.2 c.count_cause.ensures

pub returns : goal.returns
returns c =
    subst (λ p. c.loop-cause.self ≡ fold with_cause c.args.self.now (items_of p))
    (c.into_iter-cause-iterator.ensures.into_iter_gives ∙ c.items-cause-items.ensures)
    (Counting-list with_cause c.into_iter-cause-iterator.result c.loop-cause.cause-iterator
    c.args.self.now c.loop-cause.self c.loop-cause.invariant c.in-None.ensures.steps.0)
