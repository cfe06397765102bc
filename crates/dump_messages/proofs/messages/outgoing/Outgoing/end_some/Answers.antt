use Rattle.std.proofs.Common.{◌∙◌}
use Rattle.dump_messages.proofs.Fates.{adds_more}
use Rattle.dump_messages.proofs.messages.outgoing.Outgoing.end_some.Goals as goal

pub loop-place-preserved : goal.loop-place-preserved
loop-place-preserved c = (
  adds_more c.args.fate c.args.ended.now.list.items c.loop-place.ended.list.items
      c.end_new.new.ended.list.items c.loop-place.invariant.0 c.in_ok-end_new.ensures.fate,
  c.in_ok-end_new.ensures.count ∙ c.note_passed.ensures ∙ c.loop-place.invariant.1,
)
