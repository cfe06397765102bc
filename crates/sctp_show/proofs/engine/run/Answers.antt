use Rattle.sctp_show.proofs.ShowLemmas.{only_read_failed, writes_shown}
use Rattle.sctp_show.proofs.OneAnswer.{Shows-one}
use Rattle.sctp_show.proofs.SomeAnswer.{Shows-some}
use Rattle.sctp_show.proofs.engine.run.Goals as goal

pub returns : goal.returns
returns g c = record {
  at_most = c.reply_to-reply.ensures.at_most;
  shown = λ began opened read works.
      writes_shown c.args.strict _ _ _ _ _ _ read _ (c.reply_to-reply.ensures.reply began)
      (c.write_reply.ensures.whole works);
  some_answer = Shows-some c.args.strict;
  one_answer = Shows-one c.args.strict;
  read_failed = λ began opened works.
      (let written = c.write_reply.ensures.whole works in
      only_read_failed c.args.strict _ _ _ _ _ _ _ (c.reply_to-reply.ensures.reply began) written.0
      written.1);
  status = c.write_reply.ensures.status;
  whole =
      λ began opened works. (_, c.reply_to-reply.ensures.reply began, c.write_reply.ensures.whole works);
  cut = λ began opened failed. (
    _,
    c.reply_to-reply.ensures.reply began,
    c.write_reply.ensures.cut opened
        failed,
  );
  flushed = c.write_reply.ensures.flushed;
}
